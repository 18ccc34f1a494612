mod EnumLaws
pub mod Numbered
