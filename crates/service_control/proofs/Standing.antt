-- Who is present are the tenants of the settings that the changes made.
use Rattle.std.proofs.Common.{◌≡◌, ℕ, List, [], ◌∷◌, ◌++◌, map, filter, ◌==◌, not, cond, append_assoc, Bool, true, false, Option, Some, None, Ok, inl, inr, string_bytes, refl, sym, ap, subst, ◌∙◌}
use Rattle.service_runtime.specs.Documents.{Reads}
use Rattle.service_runtime.specs.Output.{Output}
use Rattle.shared_hub.specs.Logs.{CallerState}
use Rattle.tail_settings.specs.Change.{Change, admit, strike, struck, admitted, or_before, after}
use Rattle.tail_settings.specs.Fault.{FaultData}
use Rattle.tail_settings.specs.Settings.{SettingsData}
use Rattle.tenant_registry.specs.declared.in_force.Newcomer.{Newcomer}
use Rattle.tenant_registry.specs.InForce.{IsLetIn, IsTurnedAway}
use Rattle.tenant_registry.proofs.Below.{AreBelow, are_below, named, last_named, back_again, named_without}
use Rattle.tenant_registry.proofs.Came.{after_more}
use Rattle.service_control.specs.Comings.{Standing, IsAdded, added, not_joined, turned_away, unread}
use Rattle.service_control.specs.Commands.{IsAnswered, reports, adds, retires, asks_nothing, AreAnswered, no_answer, answer_more, stays, without, AreInForce, TenantsAreInForce}

module _ (first : SettingsData) (below : AreBelow first) where
  -- the settings after one change more
  grown_by : (changes : List Change) (text : List ℕ) (grown : SettingsData) → admitted (after first changes) text ≡ Ok grown
      → after first (changes ++ admit text ∷ []) ≡ grown
  grown_by changes text grown admits = after_more first changes (admit text) ∙ ap (or_before (after first changes)) admits

  let_in : (changes left : List Change) (text : List ℕ) (newcomer : Newcomer) → IsLetIn first changes text newcomer left
      → map named (after first left).tenants ≡ map named (after first changes).tenants ++ (newcomer.number, string_bytes newcomer.name) ∷ []
  let_in changes left text newcomer (who, is) =
      ap (λ l. map named (after first l).tenants) is
      ∙ ap (λ (s : SettingsData). map named s.tenants) (grown_by changes text who.grown who.admits)
      ∙ last_named (after first changes) who.grown text newcomer.number (string_bytes newcomer.name) (are_below first changes below) who.admits who.number who.name

  -- one who is let in and struck again
  in_and_out : (changes left : List Change) (text : List ℕ) (number : ℕ) (grown : SettingsData) → admitted (after first changes) text ≡ Ok grown
      → number ≡ (after first changes).next → left ≡ changes ++ admit text ∷ strike number ∷ []
      → map named (after first left).tenants ≡ map named (after first changes).tenants
  in_and_out changes left text number grown admits is all =
      ap (λ l. map named (after first l).tenants) (all ∙ sym (append_assoc changes (admit text ∷ []) (strike number ∷ [])))
      ∙ ap (λ (s : SettingsData). map named s.tenants) (after_more first (changes ++ admit text ∷ []) (strike number))
      ∙ ap (λ (s : SettingsData). map named (struck s number).tenants) (grown_by changes text grown admits)
      ∙ ap (map named) (back_again (after first changes) grown text number (are_below first changes below) admits is)

  away : (changes left : List Change) (text : List ℕ) (fault : Option FaultData) → IsTurnedAway first changes text fault left
      → map named (after first left).tenants ≡ map named (after first changes).tenants
  away changes left text (Some fault) told = ap (λ l. map named (after first l).tenants) told.1
  away changes left text None (inl same) = ap (λ l. map named (after first l).tenants) same
  away changes left text None (inr none) = in_and_out changes left text (after first changes).next none.0 none.1 refl none.2

  after_adding : (reads : Reads) (shards : ℕ) (path : List ℕ) (standing : Standing) (old : CallerState) (left : Standing) {new : CallerState} {line : List ℕ}
      → IsAdded reads first shards path standing old left new line → AreInForce first standing → AreInForce first left
  after_adding reads shards path standing old left (added text newcomer new line read came joined) are =
      joined.left_are ∙ ap (λ ps. ps ++ (newcomer.number, string_bytes newcomer.name) ∷ []) are ∙ sym (let_in standing.changes left.changes text newcomer came)
  after_adding reads shards path standing old left (not_joined text newcomer why new read who out same all) are =
      same ∙ are ∙ sym (in_and_out standing.changes left.changes text newcomer.number who.grown who.admits who.number all)
  after_adding reads shards path standing old left (turned_away text fault read none same) are =
      same ∙ are ∙ sym (away standing.changes left.changes text fault none)
  after_adding reads shards path standing old left (unread why is same) are = subst (AreInForce first) (sym same) are

  gone : (number : ℕ) (standing : Standing) → AreInForce first standing → AreInForce first (without number standing)
  gone number standing are =
      ap (filter (λ other. not (other.0 == number))) are
      ∙ sym (named_without number (after first standing.changes).tenants)
      ∙ ap (λ (s : SettingsData). map named s.tenants) (sym (after_more first standing.changes (strike number)))

  gone_or_not : (b : Bool) (number : ℕ) (standing : Standing) → AreInForce first standing → AreInForce first (cond b standing (without number standing))
  gone_or_not true number standing are = are
  gone_or_not false number standing are = gone number standing are

  after_line : (port : Bool) (reads : Reads) (shards : ℕ) (line : List ℕ) (standing : Standing) (old : CallerState) (before : ℕ) (so_far : Output)
      (left : Standing) (new : CallerState) (last : ℕ) (written : Output)
      → IsAnswered port reads first shards line standing old before so_far left new last written → AreInForce first standing → AreInForce first left
  after_line port reads shards line standing old before so_far left new last written (reports name tenant text is told same) are =
      subst (AreInForce first) (sym same) are
  after_line port reads shards line standing old before so_far left new last written (adds path told text came put same) are =
      after_adding reads shards path standing old left came are
  after_line port reads shards line standing old before so_far left new last written (retires name tenant text is went) are =
      subst (AreInForce first) (sym went.left_are) (gone_or_not (stays went.outcome) tenant standing are)
  after_line port reads shards line standing old before so_far left new last written (asks_nothing none a b c same) are =
      subst (AreInForce first) (sym same) are

  pub after_lines : (port : Bool) (reads : Reads) (shards : ℕ) (standing : Standing) (old : CallerState) (before : ℕ) (so_far : Output)
      {lines : List (List ℕ)} {left : Standing} {new : CallerState} {last : ℕ} {written : Output}
      → AreAnswered port reads first shards standing old before so_far lines left new last written → AreInForce first standing → AreInForce first left
  after_lines port reads shards standing old before so_far no_answer are = are
  after_lines port reads shards standing old before so_far (answer_more firsts known mid between text line left new last written earlier answer) are =
      after_line port reads shards line known mid between text left new last written answer
      (after_lines port reads shards standing old before so_far earlier are)

pub in_force : (reads : Reads) → TenantsAreInForce reads
in_force reads first below port shards old before so_far lines left new last written answered =
    after_lines first below port reads shards _ old before so_far answered refl
