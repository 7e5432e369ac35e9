-- Lines of the input, by what stands behind their first word.
use Rattle.std.proofs.Common.{◌≡◌, ℕ, List, ◌++◌, codes, get_or, Bool, true, false, not, Option, Some, None, is_some, option_map, sym, ap, subst, ◌∙◌, arith}
use Rattle.std.specs.Bool.{OnTrue}
use Rattle.std.proofs.lemmas.List.{append_cancel_left}
use Rattle.otlp_front.specs.Route.{number_of}
use Rattle.tenant_registry.specs.Roster.{Present}
use Rattle.service_front.specs.Lines.{AsksNothing}

-- a line has one byte at a place
apart : (line other : List ℕ) (at : ℕ) → line ≡ other → get_or line at 0 ≡ get_or other at 0
apart line other at same = ap (λ (l : List ℕ). get_or l at 0) same

no_other : (present : Present) (word name other : List ℕ) → word ++ name ≡ word ++ other → number_of present name ≡ None
    → number_of present other ≡ None
no_other present word name other same none =
    subst (λ n. number_of present n ≡ None) (append_cancel_left word name other same) none

pub report_of_nobody : (present : Present) (line name : List ℕ) → line ≡ codes "report " ++ name → number_of present name ≡ None
    → AsksNothing present line
report_of_nobody present line name text none = record {
  no_report = λ other same. no_other present (codes "report ") name other (sym text ∙ same) none;
  no_coming = λ path same.
      let byte : 114 ≡ 97 = apart (codes "report " ++ name) (codes "add " ++ path) 0 (sym text ∙ same) in
      absurd (omega (arith, byte));
  no_going = λ other same.
      let byte : 112 ≡ 116 = apart (codes "report " ++ name) (codes "retire " ++ other) 2 (sym text ∙ same) in
      absurd (omega (arith, byte));
}

pub retires_nobody : (present : Present) (line name : List ℕ) → line ≡ codes "retire " ++ name → number_of present name ≡ None
    → AsksNothing present line
retires_nobody present line name text none = record {
  no_report = λ other same.
      let byte : 116 ≡ 112 = apart (codes "retire " ++ name) (codes "report " ++ other) 2 (sym text ∙ same) in
      absurd (omega (arith, byte));
  no_coming = λ path same.
      let byte : 114 ≡ 97 = apart (codes "retire " ++ name) (codes "add " ++ path) 0 (sym text ∙ same) in
      absurd (omega (arith, byte));
  no_going = λ other same. no_other present (codes "retire ") name other (sym text ∙ same) none;
}

-- whoever finds nobody under a name that a line asks for has found that it asks for nothing
pub nobody_found : {X Y : Type 0} (P : Type 0) (f : X → Y) (found : Option X) (number : Option Y) (b : Bool) → option_map f found ≡ number
    → is_some found ≡ not b → (number ≡ None → P) → OnTrue b P
nobody_found P f (Some x) number true same is nothing = absurd (cc)
nobody_found P f None number true same is nothing = nothing (sym same)
nobody_found P f found number false same is nothing = tt
