pub mod Grammar
pub mod Trees
pub mod Productions
pub mod Laws
