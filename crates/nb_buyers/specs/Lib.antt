pub mod Buyers
