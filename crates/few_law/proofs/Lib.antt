pub mod FewMembers
pub mod Shapes
