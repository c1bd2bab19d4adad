pub mod LabelLemmas
pub mod SizeLemmas
pub mod MemberLemmas
