-- Which services are chosen, by whether they are text.
use Rattle.std.proofs.Common.{◌≡◌, ℕ, ◌&&◌, false, List, ap}
use Rattle.std.specs.Str.{IsUtf8, is_utf8}
use Rattle.std.proofs.lemmas.Bool.{false_from_ne_true}
use Rattle.std.proofs.lemmas.Str.{IsUtf8-from_is_utf8, is_utf8-from_IsUtf8}
use Rattle.desk_settings.specs.Settings.{SettingsView, is_chosen}
use Rattle.desk_settings.specs.Selected.{is_text_chosen}

pub chosen_text : (settings : SettingsView) (service : List ℕ) → IsUtf8 service
    → is_text_chosen settings service ≡ is_chosen settings service
chosen_text settings service text = ap (λ b. b && is_chosen settings service) (is_utf8-from_IsUtf8 service text)

pub chosen_bad : (settings : SettingsView) (service : List ℕ) → (IsUtf8 service → ⊥) → is_text_chosen settings service ≡ false
chosen_bad settings service bad =
    ap (λ b. b && is_chosen settings service) (false_from_ne_true (is_utf8 service) (λ e. bad (IsUtf8-from_is_utf8 service e)))
