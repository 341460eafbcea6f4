pub mod Unsealing
pub mod Layouts
pub mod Messages
pub mod Places
pub mod StatusTexts
pub mod Placing
pub mod ReplyMessages
pub mod Framing
