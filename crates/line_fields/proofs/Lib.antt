pub mod Within
pub mod HexLaws
