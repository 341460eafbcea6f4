pub mod Hmac
pub mod Keystream
pub mod Laws
pub mod Room
pub mod Seal
pub mod Unsealed
