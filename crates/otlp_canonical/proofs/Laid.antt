-- What is read of a message is made of what stands at each place by itself.
use Rattle.std.proofs.Common.{◌≡◌, ◌≢◌, ◌==◌, ℕ, suc, ◌-◌, ◌<◌, ◌≤◌, true, false, if◌then◌else◌, List, [], ◌∷◌, ◌++◌, Result, Ok, Err, refl, sym, ap, subst, ◌∙◌, append_assoc, append-nil, arith}
use Rattle.std.proofs.lemmas.Bool.{eqb-true, eqb-false, eq-eqb, ne_eqb}
use Rattle.std.specs.List.{AllByRecursion}
use Rattle.pb_wire.specs.Grammar.{Datum, Varint, Eight, Bytes, Four, Group}
use Rattle.otlp_trace.specs.Data.{KeyValueData}
use Rattle.otlp_read.specs.declared.fault.ReadFault.{ReadFault}
use Rattle.otlp_read.specs.Walk.{◌>>=◌, Piece, Pieces, no_pieces, fold_fields, walk, read_with}
use Rattle.otlp_read.proofs.Laws.{fold_append, walk_pieces}
use Rattle.otlp_read.proofs.Opened.{opened}
use Rattle.otlp_read.proofs.Sound.{by_test}
use Rattle.otlp_read.proofs.Walks.{bind_same}
use Rattle.otlp_canonical.specs.Inner.{ReadAlike}
use Rattle.otlp_canonical.specs.Layout.{Held, nothing_held, held_in, Layout, place_in, sound_in, IsSound, held_at, attributes_at, kept_at, held_with, kept_with, LayoutLaws, AreSound, last_at, kept_in, PlacePut, KeptPut}
use Rattle.otlp_canonical.proofs.Sorted.{pieces_append}

-- ---- lists of fields

pub all_append : (P : Piece → Type 0) (ps qs : List Piece) → AllByRecursion P ps → AllByRecursion P qs → AllByRecursion P (ps ++ qs)
all_append P [] qs some others = others
all_append P (p ∷ ps) qs some others = (some.0, all_append P ps qs some.1 others)

pub same_right : {A : Type 0} (r : Result A ReadFault) → (r >>= λ a. Ok a) ≡ r
same_right (Ok a) = refl
same_right (Err f) = refl

pub ok_is : {A : Type 0} (r : Result A ReadFault) (x y : A) → r ≡ Ok x → r ≡ Ok y → x ≡ y
ok_is r x y e f = cc

pub other_place : (m n k : ℕ) → k ≡ n → m ≢ n → (k == m) ≡ false
other_place m n k is differs = ne_eqb k m (λ e. differs (sym e ∙ is))

pub this_place : (n k : ℕ) → k ≡ n → (k == n) ≡ true
this_place n k is = eq-eqb k n is

less_than : (m n : ℕ) → m < suc n → (m == n) ≡ false → m < n
less_than m n lt off = let differs : m ≢ n = eqb-false m n off in omega arith

less_behind : (m n : ℕ) → m < suc n → (n == m) ≡ false → m < n
less_behind m n lt off = let differs : n ≢ m = eqb-false n m off in omega arith

module _ {A : Type 0} (l : Layout A) where
  abbrev pub At : ℕ → List Piece → Type 0
  At n ps = AllByRecursion (λ p. place_in l p.field ≡ n) ps

  abbrev pub Sound : List Piece → Type 0
  Sound ps = AllByRecursion (λ p. IsSound l p.field) ps

  pub last_append : (n : ℕ) (h : Held) (ps qs : List Piece) → last_at l n h (ps ++ qs) ≡ last_at l n (last_at l n h ps) qs
  last_append n h [] qs = refl
  last_append n h (p ∷ ps) qs = last_append n (if place_in l p.field == n then held_in p.field.value else h) ps qs

  pub kept_append : (kept : List ℕ) (ps qs : List Piece) → kept_in l kept (ps ++ qs) ≡ kept_in l (kept_in l kept ps) qs
  kept_append kept [] qs = refl
  kept_append kept (p ∷ ps) qs = kept_append (if place_in l p.field == l.unknown then kept ++ p.spelled else kept) ps qs

  last_elsewhere : (m n : ℕ) (h : Held) (ps : List Piece) → m ≢ n → At n ps → last_at l m h ps ≡ h
  last_elsewhere m n h [] differs at = refl
  last_elsewhere m n h (p ∷ ps) differs at = rw (other_place m n (place_in l p.field) at.0 differs) (last_elsewhere m n h ps differs at.1)

  kept_elsewhere : (n : ℕ) (kept : List ℕ) (ps : List Piece) → l.unknown ≢ n → At n ps → kept_in l kept ps ≡ kept
  kept_elsewhere n kept [] differs at = refl
  kept_elsewhere n kept (p ∷ ps) differs at = rw (other_place l.unknown n (place_in l p.field) at.0 differs) (kept_elsewhere n kept ps differs at.1)

  attributes_elsewhere : (room n : ℕ) (qs : List KeyValueData) (ps : List Piece) → l.attributes ≢ n → At n ps → fold_fields (attributes_at l room) qs ps ≡ Ok qs
  attributes_elsewhere room n qs [] differs at = refl
  attributes_elsewhere room n qs (p ∷ ps) differs at = rw (other_place l.attributes n (place_in l p.field) at.0 differs) (attributes_elsewhere room n qs ps differs at.1)

  -- what is found at a place, and what is kept, is never a fault
  held_folded : (n : ℕ) (h : Held) (ps : List Piece) → fold_fields (held_at l n) h ps ≡ Ok (last_at l n h ps)
  held_folded n h [] = refl
  held_folded n h (p ∷ ps) = held_folded n (if place_in l p.field == n then held_in p.field.value else h) ps

  kept_folded : (kept : List ℕ) (ps : List Piece) → fold_fields (kept_at l) kept ps ≡ Ok (kept_in l kept ps)
  kept_folded kept [] = refl
  kept_folded kept (p ∷ ps) = kept_folded (if place_in l p.field == l.unknown then kept ++ p.spelled else kept) ps

  -- ---- a message, from its fields

  made_behind : (room : ℕ) (r : Result (List KeyValueData) ReadFault) (h : ℕ → Held) (kept : List ℕ) (ps : List Piece)
      → ((qs : List KeyValueData) → fold_fields (l.step room) (l.made h qs kept) ps ≡ (fold_fields (attributes_at l room) qs ps >>= λ rs. Ok (l.made (λ n. last_at l n (h n) ps) rs (kept_in l kept ps))))
      → ((r >>= λ qs. Ok (l.made h qs kept)) >>= λ a. fold_fields (l.step room) a ps) ≡ ((r >>= λ qs. fold_fields (attributes_at l room) qs ps) >>= λ rs. Ok (l.made (λ n. last_at l n (h n) ps) rs (kept_in l kept ps)))
  made_behind room (Ok qs) h kept ps same = same qs
  made_behind room (Err f) h kept ps same = refl

  made_of : LayoutLaws l → (room : ℕ) (h : ℕ → Held) (qs : List KeyValueData) (kept : List ℕ) (ps : List Piece) → Sound ps
      → fold_fields (l.step room) (l.made h qs kept) ps ≡ (fold_fields (attributes_at l room) qs ps >>= λ rs. Ok (l.made (λ n. last_at l n (h n) ps) rs (kept_in l kept ps)))
  made_of laws room h qs kept [] sound = refl
  made_of laws room h qs kept (p ∷ ps) sound =
      ap (λ (r : Result A ReadFault). r >>= λ a. fold_fields (l.step room) a ps) (laws.takes room h qs kept p.field p.spelled sound.0)
      ∙ made_behind room (attributes_at l room qs p.field p.spelled) (held_with l h p.field) (kept_with l kept p.field p.spelled) ps (λ rs. made_of laws room (held_with l h p.field) rs (kept_with l kept p.field p.spelled) ps sound.1)

  read_of : LayoutLaws l → (room : ℕ) (text : List ℕ) (ps : List Piece) → 0 < room → Pieces (101 - room) text ps → Sound ps
      → read_with l.step room l.none text ≡ (fold_fields (attributes_at l (room - 1)) [] ps >>= λ rs. Ok (l.made (λ n. last_at l n nothing_held ps) rs (kept_in l [] ps)))
  read_of laws room text ps some are sound =
      opened l.step room l.none text some ∙ walk_pieces (l.step (room - 1)) l.none are ∙ ap (λ (a : A). fold_fields (l.step (room - 1)) a ps) laws.first
      ∙ made_of laws (room - 1) (λ n. nothing_held) [] [] ps sound

  -- ---- what is put place by place

  -- behind what stood there, fields that make of the places up to this one what the text's make
  pub record Placed (room d : ℕ) (text : List ℕ) (n : ℕ) (old copy : List ℕ) : Type 0 where
    pub put : List ℕ
    pub copied : copy ≡ old ++ put
    pub pieces : List Piece
    pub are : Pieces d put pieces
    pub sound : Sound pieces
    pub last : (m : ℕ) → m < n → (m == l.attributes) ≡ false → walk (held_at l m) d nothing_held text ≡ Ok (last_at l m nothing_held pieces)
    pub nothing : (m : ℕ) → n ≤ m → last_at l m nothing_held pieces ≡ nothing_held
    pub none : n ≤ l.attributes → fold_fields (attributes_at l room) [] pieces ≡ Ok []
    pub attributes : l.attributes < n → walk (attributes_at l room) d [] text ≡ fold_fields (attributes_at l room) [] pieces
    pub kept : n ≤ l.unknown → kept_in l [] pieces ≡ []

  pub none_placed : (room d : ℕ) (text old : List ℕ) → Placed room d text 0 old old
  none_placed room d text old = record {
    put = [];
    copied = sym (append-nil old);
    pieces = [];
    are = no_pieces;
    sound = tt;
    last = λ m lt off. absurd (omega (arith, lt));
    nothing = λ m le. refl;
    none = λ le. refl;
    attributes = λ lt. absurd (omega (arith, lt));
    kept = λ le. refl;
  }

  module _ (room d : ℕ) (text : List ℕ) (n : ℕ) (old copy longer : List ℕ) (p : Placed room d text n old copy) (q : PlacePut l room d n text copy longer) (early : n < l.unknown) where
    last_more : (m : ℕ) → m < suc n → (m == l.attributes) ≡ false → walk (held_at l m) d nothing_held text ≡ Ok (last_at l m nothing_held (p.pieces ++ q.pieces))
    last_more m lt off =
        by_test (m == n)
        (λ e.
        let is : m ≡ n = eqb-true m n e in
        let none : last_at l m nothing_held p.pieces ≡ nothing_held = p.nothing m (omega (arith, is)) in
        let found : walk (held_at l m) d nothing_held text ≡ Ok (last_at l m nothing_held q.pieces) = subst (λ (k : ℕ). walk (held_at l k) d nothing_held text ≡ Ok (last_at l k nothing_held q.pieces)) (sym is) (q.last (subst (λ (k : ℕ). (k == l.attributes) ≡ false) is off)) in
        found ∙ ap (λ (h : Held). Ok h) (sym (last_append m nothing_held p.pieces q.pieces ∙ ap (λ (h : Held). last_at l m h q.pieces) none)))
        (λ e.
        let differs : m ≢ n = eqb-false m n e in
        let less : m < n = less_than m n lt e in
        p.last m less off ∙ ap (λ (h : Held). Ok h) (sym (last_append m nothing_held p.pieces q.pieces ∙ last_elsewhere m n (last_at l m nothing_held p.pieces) q.pieces differs q.at)))

    nothing_more : (m : ℕ) → suc n ≤ m → last_at l m nothing_held (p.pieces ++ q.pieces) ≡ nothing_held
    nothing_more m le =
        last_append m nothing_held p.pieces q.pieces ∙ last_elsewhere m n (last_at l m nothing_held p.pieces) q.pieces (λ is. absurd (omega (arith, is, le))) q.at
        ∙ p.nothing m (omega (arith, le))

    folded_more : fold_fields (attributes_at l room) [] (p.pieces ++ q.pieces) ≡ (fold_fields (attributes_at l room) [] p.pieces >>= λ qs. fold_fields (attributes_at l room) qs q.pieces)
    folded_more = fold_append (attributes_at l room) [] p.pieces q.pieces

    none_more : suc n ≤ l.attributes → fold_fields (attributes_at l room) [] (p.pieces ++ q.pieces) ≡ Ok []
    none_more le =
        folded_more ∙ ap (λ (r : Result (List KeyValueData) ReadFault). r >>= λ qs. fold_fields (attributes_at l room) qs q.pieces) (p.none (omega (arith, le)))
        ∙ attributes_elsewhere room n [] q.pieces (λ is. absurd (omega (arith, is, le))) q.at

    attributes_more : l.attributes < suc n → walk (attributes_at l room) d [] text ≡ fold_fields (attributes_at l room) [] (p.pieces ++ q.pieces)
    attributes_more lt =
        by_test (n == l.attributes)
        (λ e.
        let is : n ≡ l.attributes = eqb-true n l.attributes e in
        q.attributes e ∙ sym (folded_more ∙ ap (λ (r : Result (List KeyValueData) ReadFault). r >>= λ qs. fold_fields (attributes_at l room) qs q.pieces) (p.none (omega (arith, is)))))
        (λ e.
        let differs : l.attributes ≢ n = λ is. eqb-false n l.attributes e (sym is) in
        let less : l.attributes < n = less_behind l.attributes n lt e in
        p.attributes less
        ∙ sym (folded_more ∙ bind_same (fold_fields (attributes_at l room) [] p.pieces) (λ qs. fold_fields (attributes_at l room) qs q.pieces) (λ qs. Ok qs) (λ qs. attributes_elsewhere room n qs q.pieces differs q.at)
        ∙ same_right (fold_fields (attributes_at l room) [] p.pieces)))

    pub one_placed : Placed room d text (suc n) old longer
    one_placed = record {
      put = p.put ++ q.put;
      copied = q.copied ∙ ap (λ (t : List ℕ). t ++ q.put) p.copied ∙ append_assoc old p.put q.put;
      pieces = p.pieces ++ q.pieces;
      are = pieces_append p.are q.are;
      sound = all_append (λ x. IsSound l x.field) p.pieces q.pieces p.sound q.sound;
      last = last_more;
      nothing = nothing_more;
      none = none_more;
      attributes = attributes_more;
      kept = λ le.
          kept_append [] p.pieces q.pieces ∙ kept_elsewhere n (kept_in l [] p.pieces) q.pieces (λ is. absurd (omega (arith, is, early))) q.at
          ∙ p.kept (omega (arith, early));
    }

  -- where no string stands each field is sound
  plain_field : (n : ℕ) (v : Datum) → l.is_string (l.place n v) ≡ false → sound_in l n v
  plain_field n (Varint x) off = tt
  plain_field n (Eight bs) off = tt
  plain_field n (Bytes bs) off = λ is. absurd (let no : true ≡ false = sym is ∙ off in cc)
  plain_field n (Four bs) off = tt
  plain_field n (Group bs) off = tt

  pub plain_sound : (n : ℕ) → l.is_string n ≡ false → (ps : List Piece) → At n ps → Sound ps
  plain_sound n off [] at = tt
  plain_sound n off (p ∷ ps) at = (plain_field p.field.number p.field.value (ap l.is_string at.0 ∙ off), plain_sound n off ps at.1)

  -- all places, and what isn't known behind them
  pub all_placed : LayoutLaws l → (room : ℕ) (text old copy new : List ℕ) → 0 < room → AreSound l (101 - room) text → Placed (room - 1) (101 - room) text l.unknown old copy → KeptPut l (101 - room) text copy new
      → ReadAlike l.step l.none room text old new
  all_placed laws room text old copy new some t p q =
      let d = 101 - room in
      let inner = room - 1 in
      let cs = p.pieces ++ q.pieces in
      let are : Pieces d (p.put ++ q.put) cs = pieces_append p.are q.are in
      let sound : Sound cs = all_append (λ x. IsSound l x.field) p.pieces q.pieces p.sound (plain_sound l.unknown laws.unknown_plain q.pieces q.at) in
      let not_attributes : l.attributes ≢ l.unknown = λ is. absurd (let lt = laws.behind in omega (arith, is, lt)) in
      let attributes : fold_fields (attributes_at l inner) [] t.pieces ≡ fold_fields (attributes_at l inner) [] cs =
      sym (walk_pieces (attributes_at l inner) [] t.are) ∙ p.attributes laws.behind
      ∙ sym (fold_append (attributes_at l inner) [] p.pieces q.pieces ∙ bind_same (fold_fields (attributes_at l inner) [] p.pieces) (λ qs. fold_fields (attributes_at l inner) qs q.pieces) (λ qs. Ok qs) (λ qs. attributes_elsewhere inner l.unknown qs q.pieces not_attributes q.at)
      ∙ same_right (fold_fields (attributes_at l inner) [] p.pieces)) in
      let held : (n : ℕ) → n < l.unknown → (n == l.attributes) ≡ false → last_at l n nothing_held t.pieces ≡ last_at l n nothing_held cs = λ n lt off.
      ok_is (walk (held_at l n) d nothing_held text) (last_at l n nothing_held t.pieces) (last_at l n nothing_held cs)
      (walk_pieces (held_at l n) nothing_held t.are ∙ held_folded n nothing_held t.pieces)
      (p.last n lt off ∙ ap (λ (h : Held). Ok h) (sym (last_append n nothing_held p.pieces q.pieces ∙ last_elsewhere n l.unknown (last_at l n nothing_held p.pieces) q.pieces (λ is. absurd (omega (arith, is, lt))) q.at))) in
      let kept : kept_in l [] t.pieces ≡ kept_in l [] cs =
      ok_is (walk (kept_at l) d [] text) (kept_in l [] t.pieces) (kept_in l [] cs) (walk_pieces (kept_at l) [] t.are ∙ kept_folded [] t.pieces)
      (q.kept ∙ ap (λ (k : List ℕ). Ok k) (sym (kept_append [] p.pieces q.pieces ∙ ap (λ (k : List ℕ). kept_in l k q.pieces) (p.kept (omega arith))))) in
      let same : (rs : List KeyValueData) → l.made (λ n. last_at l n nothing_held t.pieces) rs (kept_in l [] t.pieces) ≡ l.made (λ n. last_at l n nothing_held cs) rs (kept_in l [] cs) = λ rs.
      laws.same (λ n. last_at l n nothing_held t.pieces) (λ n. last_at l n nothing_held cs) rs (kept_in l [] t.pieces) held ∙ ap (λ (k : List ℕ). l.made (λ n. last_at l n nothing_held cs) rs k) kept in
      record {
        put = p.put ++ q.put;
        copied = q.copied ∙ ap (λ (t : List ℕ). t ++ q.put) p.copied ∙ append_assoc old p.put q.put;
        same =
            read_of laws room text t.pieces some t.are t.sound
            ∙ ap (λ (r : Result (List KeyValueData) ReadFault). r >>= λ rs. Ok (l.made (λ n. last_at l n nothing_held t.pieces) rs (kept_in l [] t.pieces))) attributes
            ∙ bind_same (fold_fields (attributes_at l inner) [] cs) (λ rs. Ok (l.made (λ n. last_at l n nothing_held t.pieces) rs (kept_in l [] t.pieces))) (λ rs. Ok (l.made (λ n. last_at l n nothing_held cs) rs (kept_in l [] cs))) (λ rs. ap (λ (a : A). Ok a) (same rs))
            ∙ sym (read_of laws room (p.put ++ q.put) cs some are sound);
      }
