pub mod Roles
