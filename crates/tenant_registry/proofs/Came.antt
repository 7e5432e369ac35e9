-- Settings that came of the first ones, one change later.
use Rattle.std.proofs.Common.{◌≡◌, inl, ℕ, List, [], ◌∷◌, ◌++◌, Option, Some, None, Ok, Err, IfSome, refl, sym, ap, subst, ◌∙◌}
use Rattle.toml.specs.Data.{Members}
use Rattle.toml.specs.Parse.{parse_document}
use Rattle.tail_settings.specs.Change.{Change, admit, strike, admitted_table, admitted, struck, or_before, changed, after}
use Rattle.tail_settings.specs.Fault.{FaultData, fault_view, TellsFault}
use Rattle.tail_settings.specs.Settings.{SettingsData, document_in}
use Rattle.tail_settings.specs.declared.fault.SettingsFault.{SettingsFault}
use Rattle.tenant_registry.specs.InForce.{CameOf, IsTurnedAway}

pub after_more : (s : SettingsData) (changes : List Change) (change : Change) → after s (changes ++ change ∷ []) ≡ changed (after s changes) change
after_more s [] change = refl
after_more s (c ∷ changes) change = after_more (changed s c) changes change

-- what was noted of settings says that they came
pub came_as : (first now : SettingsData) (changes : List Change) → now ≡ after first changes → CameOf first now
came_as first now changes is = ∣ (changes, is) ∣₁

-- a text is admitted as its document is
pub admitted_as : (s : SettingsData) (text : List ℕ) (document : Members) → document_in (parse_document text) ≡ Ok document
    → admitted s text ≡ admitted_table s document
unfolding admitted
admitted_as s text document is = rw is refl

-- who was let in with a text's document was let in with the text
pub grown_as : (first s new : SettingsData) (changes : List Change) (text : List ℕ) (document : Members) → document_in (parse_document text) ≡ Ok document
    → s ≡ after first changes → admitted_table s document ≡ Ok new → admitted (after first changes) text ≡ Ok new
grown_as first s new changes text document is same admits =
    subst (λ t. admitted t text ≡ Ok new) same (admitted_as s text document is ∙ admits)

-- and that is one change more
pub after_admission : (first new : SettingsData) (changes : List Change) (text : List ℕ) → admitted (after first changes) text ≡ Ok new
    → new ≡ after first (changes ++ admit text ∷ [])
after_admission first new changes text admits = sym (after_more first changes (admit text) ∙ ap (or_before (after first changes)) admits)

pub after_striking : (first s new : SettingsData) (changes : List Change) (number : ℕ) → s ≡ after first changes → new ≡ struck s number
    → new ≡ after first (changes ++ strike number ∷ [])
after_striking first s new changes number same left =
    left ∙ ap (λ t. struck t number) same ∙ sym (after_more first changes (strike number))

-- a text that has no document changes nothing
no_admission : (first : SettingsData) (changes : List Change) (text : List ℕ) (o : Option FaultData) → IfSome o (λ f. document_in (parse_document text) ≡ Err f)
    → IsTurnedAway first changes text o changes
unfolding admitted
no_admission first changes text None told = inl refl
no_admission first changes text (Some f) told = (rw told refl, refl)

pub turned_away_unparsed : (first : SettingsData) (changes : List Change) (text : List ℕ) (fault : SettingsFault) → TellsFault fault (document_in (parse_document text))
    → IsTurnedAway first changes text (fault_view fault) changes
turned_away_unparsed first changes text fault told = no_admission first changes text (fault_view fault) told

-- a document that is refused changes nothing
pub turned_away_as : (first s : SettingsData) (changes left : List Change) (text : List ℕ) (document : Members) (fault : Option FaultData)
    → document_in (parse_document text) ≡ Ok document → s ≡ after first changes → left ≡ changes
    → IfSome fault (λ f. admitted_table s document ≡ Err f) → IsTurnedAway first changes text fault left
turned_away_as first s changes left text document None is same none told = inl none
turned_away_as first s changes left text document (Some f) is same none told =
    (subst (λ t. admitted t text ≡ Err f) same (admitted_as s text document is ∙ told), none)
