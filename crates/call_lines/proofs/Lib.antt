pub mod SettingLaws
pub mod Wholes
