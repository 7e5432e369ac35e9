-- The resource spans of a body, one after the other and piece by piece.
use Rattle.std.proofs.Common.{◌≡◌, ◌∙◌, ◌≤◌, ◌+◌, List, [], ◌∷◌, ◌++◌, map, length, refl, sym, ap, subst, append-nil, append_assoc, arith}
use Rattle.std.proofs.lemmas.Grind.{flat_map-append}
use Rattle.std.proofs.lemmas.List.{map-append, reverse-reverse}
use Rattle.std.specs.Prelude.{reverse}
use Rattle.std.specs.List.{AllByRecursion, flat_map}
use Rattle.otlp_parts.specs.declared.parts.ResourceParts.{ResourceParts}
use Rattle.otlp_parts.specs.Parts.{resource_parts_view}
use Rattle.otlp_parts.specs.Texts.{ResourceTexts}
use Rattle.tail_settings.specs.Policy.{PolicyData}
use Rattle.tenant_rules.specs.Arrivals.{Arrival}
use Rattle.prepared_body.specs.Origin.{OriginTexts}
use Rattle.otlp_prepare.specs.BodySpans.{UnnotedSpanData, part_arrivals, AreFound, Adds, IsGroupRead, arrivals_in_resource}
use Rattle.otlp_prepare.proofs.Lists.{every_front, every_back}

-- the spans of some resource spans were found behind those that had been, those that are left give the rest, and these were read
pub record AreAdding (policies : List PolicyData) (all left : List ResourceTexts) (os : List OriginTexts) (parts : List UnnotedSpanData)
    (os' : List OriginTexts) (parts' : List UnnotedSpanData) : Type 0 where
  pub found : AreFound policies os' parts'
  pub whole : part_arrivals os' parts' ++ flat_map arrivals_in_resource left ≡ part_arrivals os parts ++ flat_map arrivals_in_resource all
  pub sparing : length os' + length parts ≤ length os + length parts'
  pub read : AllByRecursion IsGroupRead left

pub nothing_yet : (policies : List PolicyData) (all left : List ResourceTexts) (os : List OriginTexts) (parts : List UnnotedSpanData) → left ≡ all
    → AreFound policies os parts → AllByRecursion IsGroupRead all → AreAdding policies all left os parts os parts
nothing_yet policies all left os parts same are read = record {
  found = are;
  whole = ap (λ (xs : List ResourceTexts). part_arrivals os parts ++ flat_map arrivals_in_resource xs) same;
  sparing = omega arith;
  read = subst (λ (xs : List ResourceTexts). AllByRecursion IsGroupRead xs) (sym same) read;
}

-- the next piece of them
pub piece_added : (policies : List PolicyData) (all before now left : List ResourceTexts) (os os' os'' : List OriginTexts) (parts parts' parts'' : List UnnotedSpanData)
    → before ≡ now ++ left → AreAdding policies all before os parts os' parts' → Adds policies (flat_map arrivals_in_resource now) os' parts' os'' parts''
    → AreAdding policies all left os parts os'' parts''
piece_added policies all before now left os os' os'' parts parts' parts'' next is adds =
    let more = flat_map arrivals_in_resource now in
    let rest = flat_map arrivals_in_resource left in
    let joined : more ++ rest ≡ flat_map arrivals_in_resource before = sym (flat_map-append arrivals_in_resource now left) ∙ ap (λ (xs : List ResourceTexts). flat_map arrivals_in_resource xs) (sym next) in
    record {
      found = adds.found;
      whole =
          ap (λ (xs : List Arrival). xs ++ rest) adds.whole
          ∙ (append_assoc (part_arrivals os' parts') more rest ∙ (ap (λ (xs : List Arrival). part_arrivals os' parts' ++ xs) joined ∙ is.whole));
      sparing = omega (arith, is.sparing, adds.sparing);
      read = every_back IsGroupRead now left (subst (λ (xs : List ResourceTexts). AllByRecursion IsGroupRead xs) next is.read);
    }

-- the next one
pub group_added : (policies : List PolicyData) (all before : List ResourceTexts) (group : ResourceTexts) (left : List ResourceTexts) (os os' os'' : List OriginTexts) (parts parts' parts'' : List UnnotedSpanData)
    → before ≡ group ∷ left → AreAdding policies all before os parts os' parts' → Adds policies (arrivals_in_resource group) os' parts' os'' parts''
    → AreAdding policies all left os parts os'' parts''
group_added policies all before group left os os' os'' parts parts' parts'' next is adds =
    piece_added policies all before (group ∷ []) left os os' os'' parts parts' parts'' next is
    (subst (λ (xs : List Arrival). Adds policies xs os' parts' os'' parts'') (sym (append-nil (arrivals_in_resource group))) adds)

-- when none is left
pub all_added : {A : Type 0} (f : A → ResourceTexts) (policies : List PolicyData) (all : List ResourceTexts) (left : List A) (os os' : List OriginTexts) (parts parts' : List UnnotedSpanData) → length left ≡ 0
    → AreAdding policies all (map f left) os parts os' parts' → Adds policies (flat_map arrivals_in_resource all) os parts os' parts'
all_added f policies all [] os os' parts parts' none is = record { found = is.found; whole = sym (append-nil (part_arrivals os' parts')) ∙ is.whole; sparing = is.sparing }
all_added f policies all (group ∷ left) os os' parts parts' none is = absurd (omega (arith, none))

-- ---- of a list that stands in reverse

-- none was found yet of a list, which was turned
pub none_found : (policies : List PolicyData) (groups left : List ResourceParts) (os : List OriginTexts) (parts : List UnnotedSpanData) → os ≡ [] → parts ≡ []
    → left ≡ reverse groups → AllByRecursion IsGroupRead (map resource_parts_view groups)
    → AreAdding policies (map resource_parts_view groups) (map resource_parts_view (reverse left)) [] [] os parts
none_found policies groups left os parts no_origins no_parts turned read =
    let all = map resource_parts_view groups in
    let here = map resource_parts_view (reverse left) in
    let same : here ≡ all = ap (λ (gs : List ResourceParts). map resource_parts_view gs) (ap reverse turned ∙ reverse-reverse groups) in
    let empty : AreAdding policies all here [] [] [] [] = nothing_yet policies all here [] [] same tt read in
    let placed : AreAdding policies all here [] [] os [] = subst (λ (xs : List OriginTexts). AreAdding policies all here [] [] xs []) (sym no_origins) empty in
    subst (λ (xs : List UnnotedSpanData). AreAdding policies all here [] [] os xs) (sym no_parts) placed

-- its next piece
pub next_piece : (before now left : List ResourceParts) → reverse before ≡ now ++ reverse left
    → map resource_parts_view (reverse before) ≡ map resource_parts_view now ++ map resource_parts_view (reverse left)
next_piece before now left split =
    ap (λ (gs : List ResourceParts). map resource_parts_view gs) split ∙ map-append resource_parts_view now (reverse left)

-- which was read
pub piece_read : (before now left : List ResourceParts) → reverse before ≡ now ++ reverse left
    → AllByRecursion IsGroupRead (map resource_parts_view (reverse before)) → AllByRecursion IsGroupRead (map resource_parts_view now)
piece_read before now left split read =
    every_front IsGroupRead (map resource_parts_view now) (map resource_parts_view (reverse left))
    (subst (λ (xs : List ResourceTexts). AllByRecursion IsGroupRead xs) (next_piece before now left split) read)

-- when none is left, all were found
pub all_whole : (policies : List PolicyData) (all : List ResourceTexts) (left : List ResourceParts) (os' : List OriginTexts) (parts' : List UnnotedSpanData) → length left ≡ 0
    → AreAdding policies all (map resource_parts_view (reverse left)) [] [] os' parts' → part_arrivals os' parts' ≡ flat_map arrivals_in_resource all
all_whole policies all [] os' parts' none is = (all_added resource_parts_view policies all [] [] os' [] parts' refl is).whole
all_whole policies all (group ∷ left) os' parts' none is = absurd (omega (arith, none))
