pub mod SameLaws
pub mod FewLaws
