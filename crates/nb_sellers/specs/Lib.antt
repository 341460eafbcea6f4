pub mod Sellers
