-- What follows from a run of the machine.
use Rattle.std.proofs.Common.{◌≡◌, ℕ, ◌==◌, ◌&&◌, List, [], ◌∷◌, length, ◌⊎◌, inl, inr, Bool, true, false, eqb, Option, Some, None, refl, sym, ap, ◌∙◌, subst, arith}
use Rattle.std.specs.Prelude.{option_map, if◌then◌else◌, ◌≢◌}
use Rattle.std.specs.Option.{option_or}
use Rattle.std.proofs.lemmas.Bool.{cases_eq}
use Rattle.std.proofs.lemmas.Bool.Decides.{nat_tests}
use Rattle.rand_pcg.specs.Lcg.{Lcg}
use Rattle.tail_settings.specs.declared.section.Section.{Section}
use Rattle.tail_settings.specs.Section.{SectionData, section_view}
use Rattle.tenant_rules.specs.Own as own
use Rattle.machine_hub.specs.Runs.{Runs}
use Rattle.shard_machine.specs.Jitter.{start, next_word, moved, first_words, TenantGenerator, generator_of, or_start, IsDraw}
use Rattle.tenant_shard.specs.declared.step.Step.{Step}
use Rattle.tenant_shard.specs.declared.step.Step.TheVariants as steps
use Rattle.tenant_shard.specs.declared.step.Outcome.{Outcome}
use Rattle.tenant_shard.specs.View.{View, was_of}
use Rattle.tenant_shard.specs.Outcomes.{plain, asked_in, reports}
use Rattle.tenant_shard.specs.Follows.{ShardFollows}
use Rattle.shard_machine.specs.declared.step.WordSource.{WordSource}
use Rattle.shard_machine.specs.declared.step.WordSource.TheVariants as word
use Rattle.shard_machine.specs.MachineState.{MachineState, lets_in, ComesIn, Retires, GeneratorsMove, MachineDoes, started}
use Rattle.shard_machine.specs.Run.{Logged, with_word, drawn_for, came_by, section_in, AreFirstWords, RunsAreShardRuns, WordsAreInOrder}
use Rattle.shard_machine.proofs.Members.{never_comes}

pub shard_runs : RunsAreShardRuns
shard_runs old new [] run = ap (λ (s : MachineState). s.views) (sym run)
shard_runs old new (e ∷ es) run = (run.0.views, run.1.shard, shard_runs run.0 new es run.2)

-- ---- a number that was used

-- it stays so
used_stays : (t : ℕ) (step : Step) (old : List View) (o : Outcome) (new : List View) → ShardFollows step old o new → was_of t old ≡ true → was_of t new ≡ true
used_stays t step old o new (inl n) used = ap (was_of t) n.new_is ∙ used
used_stays t step old o new (inr (inl (u, m))) used = by (cases_eq t u)
  where
    by : (t ≡ u) ⊎ (t ≢ u) → was_of t new ≡ true
    by (inl same) = ap (λ x. was_of x new) same ∙ m.was_now
    by (inr apart) = (m.others t apart).1 ∙ used
used_stays t step old o new (inr (inr (u, a))) used = by (cases_eq t u)
  where
    by : (t ≡ u) ⊎ (t ≢ u) → was_of t new ≡ true
    by (inl same) = ap (λ x. was_of x new) same ∙ a.change.was_now
    by (inr apart) = (a.change.others t apart).1 ∙ used

some_same : (one other : ℕ) → Some one ≡ Some other → one ≡ other
some_same one other same = cc

-- who comes again isn't let in
kept_out : (t : ℕ) (section : Section) (old : List View) (o : Outcome) (new : List View) → ShardFollows (steps.Add t section) old o new → was_of t old ≡ true → lets_in o ≡ false
kept_out t section old o new (inl n) used = ap lets_in n.outcome_is
kept_out t section old o new (inr (inl m)) used = absurd m.1.whose
kept_out t section old o new (inr (inr (u, a))) used =
    let never : was_of t old ≡ false = ap (λ x. was_of x old) (some_same t u a.whose.names) ∙ a.whose.is_new in
    absurd (cc)

added_none : (t u : ℕ) (section : Section) (old : List View) (o : Outcome) (new : List View) → ShardFollows (steps.Add u section) old o new → was_of t old ≡ true → came_by t (steps.Add u section) o ≡ None
added_none t u section old o new follows used = by (eqb u t) refl
  where
    by : (b : Bool) → eqb u t ≡ b → ◌≡◌ {A = Option SectionData} (if b && lets_in o then Some (section_view section) else None) None
    by true is =
        let same : u ≡ t = grind (arith, nat_tests) in
        let out : lets_in o ≡ false = kept_out u section old o new follows (ap (λ x. was_of x old) same ∙ used) in
        ap (λ (b : Bool). if b then Some (section_view section) else None) out
    by false is = refl

came_none : (t : ℕ) (step : Step) (old : List View) (o : Outcome) (new : List View) → ShardFollows step old o new → was_of t old ≡ true → came_by t step o ≡ None
came_none t (steps.Post now prepared) old o new follows used = refl
came_none t (steps.Turn now) old o new follows used = refl
came_none t (steps.Answer u now ticket drawn answer) old o new follows used = refl
came_none t (steps.Report u now) old o new follows used = refl
came_none t (steps.Drain u now) old o new follows used = refl
came_none t (steps.Add u section) old o new follows used = added_none t u section old o new follows used
came_none t (steps.Retire u now) old o new follows used = refl

used_never : (t : ℕ) (old new : MachineState) (es : List Logged) → Runs MachineDoes old es new → was_of t old.views ≡ true → section_in t es ≡ None
used_never t old new [] run used = refl
used_never t old new (e ∷ es) run used =
    let follows = run.1.shard.from_state in
    ap (λ s. option_or s (section_in t es)) (came_none t e.step.step old.views e.outcome run.0.views follows used)
    ∙ used_never t run.0 new es run.2 (used_stays t e.step.step old.views e.outcome run.0.views follows used)

-- who has gone was a member
gone_used : (t now : ℕ) (old : List View) (o : Outcome) (new : List View) → ShardFollows (steps.Retire t now) old o new → reports o ≡ true → was_of t new ≡ true
gone_used t now old o new (inl n) told = let never : reports o ≡ false = ap reports n.outcome_is in absurd (cc)
gone_used t now old o new (inr (inl (u, m))) told = ap (λ x. was_of x new) m.whose.0 ∙ m.was_now
gone_used t now old o new (inr (inr (u, a))) told = absurd (never_comes (asked_in (steps.Retire t now)) (plain (own.Retire now)) a.whose.section refl a.whose.comes)

-- ---- the words of a tenant

-- words are the first of the generator that a tenant has, or else of the one that it gets
abbrev AreOf : ℕ → List TenantGenerator → Option SectionData → List ℕ → Type 0
AreOf t words section drawn = AreFirstWords (option_or (generator_of t words) (started section)) drawn

none_drawn : (o : Option Lcg) → AreFirstWords o []
none_drawn None = refl
none_drawn (Some g) = refl

-- the tenant's generator is as it was
unmoved : (t : ℕ) (old next : List TenantGenerator) (section : Option SectionData) (rest : List ℕ) → generator_of t next ≡ generator_of t old → AreOf t next section rest → AreOf t old section rest
unmoved t old next section rest same are = subst (λ g. AreFirstWords (option_or g (started section)) rest) same are

same_all : (t : ℕ) (old next : List TenantGenerator) (section : Option SectionData) (rest : List ℕ) → next ≡ old → AreOf t next section rest → AreOf t old section rest
same_all t old next section rest same are = unmoved t old next section rest (ap (generator_of t) same) are

test_apart : (u t : ℕ) → eqb u t ≡ false → t ≢ u
test_apart u t is = λ same. let test : eqb u t ≡ true = grind (arith, nat_tests) in absurd (cc)

-- a word is drawn
own_word : (g : Option Lcg) (next : Option Lcg) (drawn : ℕ) (section : Option SectionData) (rest : List ℕ) → Some drawn ≡ option_map next_word g → next ≡ option_map moved g → AreFirstWords (option_or next (started section)) rest → AreFirstWords (option_or g (started section)) (drawn ∷ rest)
own_word None next drawn section rest word_is own are = absurd (cc)
own_word (Some g) next drawn section rest word_is own are =
    let first : drawn ≡ next_word g = some_same drawn (next_word g) word_is in
    let tail : rest ≡ first_words (length rest) (moved g) = subst (λ o. AreFirstWords (option_or o (started section)) rest) own are in
    (λ i. first i ∷ tail i)

drawn_step : (t u drawn : ℕ) (old next : List TenantGenerator) (section : Option SectionData) (rest : List ℕ) → IsDraw u old (Some drawn) next → AreOf t next section rest → AreOf t old section (if u == t then drawn ∷ rest else rest)
drawn_step t u drawn old next section rest draw are = by (eqb u t) refl
  where
    by : (b : Bool) → eqb u t ≡ b → AreOf t old section (if b then drawn ∷ rest else rest)
    by true is =
        let mine : u ≡ t = grind (arith, nat_tests) in
        own_word (generator_of t old) (generator_of t next) drawn section rest (draw.word_is ∙ ap (λ x. option_map next_word (generator_of x old)) mine)
        (ap (λ x. generator_of x next) (sym mine) ∙ draw.own ∙ ap (λ x. option_map moved (generator_of x old)) mine) are
    by false is = unmoved t old next section rest (draw.others t (test_apart u t is)) are

-- a tenant is let in
own_start : (g next : Option Lcg) (section : SectionData) (later : Option SectionData) (rest : List ℕ) → g ≡ None → next ≡ Some (start section.seed) → AreFirstWords (option_or next (started later)) rest → AreFirstWords (option_or g (started (Some section))) rest
own_start g next section later rest none own are =
    subst (λ o. AreFirstWords (option_or o (Some (start section.seed))) rest) (sym none) (subst (λ o. AreFirstWords (option_or o (started later)) rest) own are)

let_in_step : (t u : ℕ) (section : Section) (old next : List TenantGenerator) (later : Option SectionData) (rest : List ℕ) (lets : Bool) → ComesIn u section.seed lets old next → AreOf t next later rest
    → AreOf t old (option_or (if u == t && lets then Some (section_view section) else None) later) rest
let_in_step t u section old next later rest lets comes are = by (eqb u t) lets refl comes
  where
    by : (b lets : Bool) → eqb u t ≡ b → ComesIn u section.seed lets old next → AreOf t old (option_or (if b && lets then Some (section_view section) else None) later) rest
    by true true is (none, seeded) =
        let mine : u ≡ t = grind (arith, nat_tests) in
        let none' : generator_of t old ≡ None = ap (λ x. generator_of x old) (sym mine) ∙ none in
        let own' : generator_of t next ≡ Some (start section.seed) = ap (λ x. generator_of x next) (sym mine) ∙ seeded.own ∙ ap (λ g. Some (or_start g section.seed)) none in
        own_start (generator_of t old) (generator_of t next) (section_view section) later rest none' own' are
    by false true is (none, seeded) = unmoved t old next later rest (seeded.others t (test_apart u t is)) are
    by true false is same = same_all t old next later rest same are
    by false false is same = same_all t old next later rest same are

-- a tenant goes
gone_step : (t u : ℕ) (old next : List TenantGenerator) (later : Option SectionData) (rest : List ℕ) (leaves : Bool) → (u ≡ t → leaves ≡ true → later ≡ None) → Retires u leaves old next → AreOf t next later rest → AreOf t old later rest
gone_step t u old next later rest false never same are = same_all t old next later rest same are
gone_step t u old next later rest true never removed are = by (cases_eq t u)
  where
    by : (t ≡ u) ⊎ (t ≢ u) → AreOf t old later rest
    by (inl same) =
        let none : generator_of t next ≡ None = ap (λ x. generator_of x next) same ∙ removed.own in
        let end : later ≡ None = never (sym same) refl in
        let nothing : rest ≡ [] = subst (λ o. AreFirstWords (option_or o (started None)) rest) none (subst (λ s. AreOf t next s rest) end are) in
        subst (λ ws. AreOf t old later ws) (sym nothing) (none_drawn (option_or (generator_of t old) (started later)))
    by (inr apart) = unmoved t old next later rest (removed.others t apart) are

words_step : (t : ℕ) (w : WordSource) (step : Step) (o : Outcome) (old next : List TenantGenerator) (later : Option SectionData) (rest : List ℕ) → ((now : ℕ) → step ≡ steps.Retire t now → reports o ≡ true → later ≡ None) → GeneratorsMove w step o old next → AreOf t next later rest
    → AreOf t old (option_or (came_by t step o) later) (with_word t w step rest)
words_step t word.Caller (steps.Post now prepared) o old next later rest never moves are = same_all t old next later rest moves are
words_step t word.Caller (steps.Turn now) o old next later rest never moves are = same_all t old next later rest moves are
words_step t word.Caller (steps.Answer u now ticket drawn answer) o old next later rest never moves are = same_all t old next later rest moves are
words_step t word.Caller (steps.Report u now) o old next later rest never moves are = same_all t old next later rest moves are
words_step t word.Caller (steps.Drain u now) o old next later rest never moves are = same_all t old next later rest moves are
words_step t word.Caller (steps.Add u section) o old next later rest never moves are = let_in_step t u section old next later rest (lets_in o) moves are
words_step t word.Caller (steps.Retire u now) o old next later rest never moves are =
    gone_step t u old next later rest (reports o) (λ same. never now (ap (λ x. steps.Retire x now) same)) moves are
words_step t word.Generator (steps.Post now prepared) o old next later rest never moves are = absurd moves
words_step t word.Generator (steps.Turn now) o old next later rest never moves are = absurd moves
words_step t word.Generator (steps.Answer u now ticket drawn answer) o old next later rest never moves are = drawn_step t u drawn old next later rest moves are
words_step t word.Generator (steps.Report u now) o old next later rest never moves are = absurd moves
words_step t word.Generator (steps.Drain u now) o old next later rest never moves are = absurd moves
words_step t word.Generator (steps.Add u section) o old next later rest never moves are = absurd moves
words_step t word.Generator (steps.Retire u now) o old next later rest never moves are = absurd moves
words_step t word.Nobody (steps.Post now prepared) o old next later rest never moves are = absurd moves
words_step t word.Nobody (steps.Turn now) o old next later rest never moves are = absurd moves
words_step t word.Nobody (steps.Answer u now ticket drawn answer) o old next later rest never moves are = same_all t old next later rest moves.2 are
words_step t word.Nobody (steps.Report u now) o old next later rest never moves are = absurd moves
words_step t word.Nobody (steps.Drain u now) o old next later rest never moves are = absurd moves
words_step t word.Nobody (steps.Add u section) o old next later rest never moves are = absurd moves
words_step t word.Nobody (steps.Retire u now) o old next later rest never moves are = absurd moves

pub words_in_order : WordsAreInOrder
words_in_order t old new [] run = none_drawn (option_or (generator_of t old.words) None)
words_in_order t old new (e ∷ es) run =
    words_step t e.step.word e.step.step e.outcome old.words run.0.words (section_in t es) (drawn_for t es) never run.1.words (words_in_order t run.0 new es run.2)
  where
    never : (now : ℕ) → e.step.step ≡ steps.Retire t now → reports e.outcome ≡ true → section_in t es ≡ None
    never now is told =
        let follows : ShardFollows (steps.Retire t now) old.views e.outcome run.0.views = subst (λ (s : Step). ShardFollows s old.views e.outcome run.0.views) is run.1.shard.from_state in
        used_never t run.0 new es run.2 (gone_used t now old.views e.outcome run.0.views follows told)
