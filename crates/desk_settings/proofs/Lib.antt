pub mod NamesLemmas
pub mod DeskLemmas
pub mod DocumentLemmas
pub mod FirstBadKey
pub mod SettingsLemmas
pub mod PreferLemmas
pub mod SelectedLemmas
