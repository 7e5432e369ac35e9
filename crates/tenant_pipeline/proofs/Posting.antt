-- The spans of a post come over the stores, one after the other, and what holds of the tenant on the way.
use Rattle.std.proofs.Common.{◌≡◌, ◌<◌, ◌≤◌, ◌+◌, ◌-◌, ◌++◌, ◌∙◌, ℕ, zero, suc, List, [], ◌∷◌, length, drop, get_or, refl, sym, ap, subst, arith, append-nil, Bool, true, false, cond}
use Rattle.std.specs.List.{AllByRecursion}
use Rattle.std.specs.Prelude.{nat_lt, ◌==◌, Result, Ok, Err, OnOk, OnErr}
use Rattle.std.proofs.lemmas.List.{length-map, drop_more, drop_all}
use Rattle.drop_ledger.specs.Ledger.{LedgerData, counted, left_out, most_counted}
use Rattle.tail_policy.specs.declared.note.TraceNote.{TraceNote}
use Rattle.tail_settings.specs.Policy.{PolicyData}
use Rattle.tail_settings.specs.Section.{section_view}
use Rattle.tail_settings.specs.declared.section.Section.{Section}
use Rattle.tenant_stores.specs.Counts.{Counts, count}
use Rattle.tenant_stores.specs.Part.{Part}
use Rattle.tenant_stores.specs.Shows.{AreAmong}
use Rattle.tenant_stores.specs.Invariant.{StoreInvariant}
use Rattle.tenant_stores.specs.View.{View, view}
use Rattle.tenant_stores.proofs.Lists.{count-append}
use Rattle.tenant_rules.specs.Arrivals.{is_valid}
use Rattle.tenant_rules.specs.Fronts.{AreInOrder, AllDueBy}
use Rattle.tenant_rules.specs.Intake.{Verdict, exhausted, accepted, verdict_of}
use Rattle.tenant_rules.specs.Limits.{IsWithinLimits}
use Rattle.tenant_rules.specs.Machine.{come, all_come, posted}
use Rattle.tenant_rules.specs.State.{State}
use Rattle.tenant_rules.specs.Sum.{IsCounted}
use Rattle.prepared_body.specs.Arrivals.{arrivals_in}
use Rattle.prepared_body.specs.Arrivals as prepared
use Rattle.prepared_body.specs.Prepared.{IsReady, AreReady}
use Rattle.prepared_body.specs.declared.noted.NotedSpan.{NotedSpan}
use Rattle.prepared_body.specs.Origin.{OriginTexts}
use Rattle.tenant_pipeline.specs.declared.journal.Journal.{Journal}
use Rattle.tenant_pipeline.specs.declared.pipeline.Pipeline.{Pipeline}
use Rattle.tenant_pipeline.specs.declared.post.HeldOrigins.{HeldOrigins}
use Rattle.tenant_pipeline.specs.Acts.{IsPosted}
use Rattle.tenant_pipeline.specs.Invariant.{IsNoted, PipelineInvariantAt}
use Rattle.tenant_pipeline.specs.Posts.{held_keys, AreHeldAt, CameNext, IsNext, IsPosting, IsSameTenant, IsTaken, IsWritten, IsWrittenWith, verdict_after}
use Rattle.tenant_pipeline.specs.StateIn.{counts_in, policies_of, state_by, written_state_of, view_in}
use Rattle.tenant_pipeline.proofs.Taking.{all_take, verdict_shifts, none_taken}

-- ---- what always holds, where a part shows the same

-- so many rows have left the table
abbrev pub swept_to : ℕ → Pipeline → Pipeline
swept_to k own = record own { rows = record own.rows { swept = k } }

pub held_over : (moment k : ℕ) (gone gone' held held' : List ℕ) (own : Pipeline) (p q : Part TraceNote) → PipelineInvariantAt moment gone held own p →
    StoreInvariant (counts_in (swept_to k own)) (gone' ++ own.batcher.spans) held' q → view_in (swept_to k own) q ≡ view_in own p → PipelineInvariantAt moment gone' held' (swept_to k own) q
held_over moment k gone gone' held held' own p q holds sound shows =
    let state : written_state_of (swept_to k own) q ≡ written_state_of own p = ap (state_by own) shows in
    record {
      sound = sound;
      first_is = holds.first_is;
      noted = subst (λ (v : View TraceNote). AllByRecursion (IsNoted (policies_of own)) v.waiting) (sym shows) holds.noted;
      rules_are = holds.rules_are;
      order = subst (λ (s : State). AreInOrder moment s.waiting) (sym state) holds.order;
      due_by = subst (λ (s : State). AllDueBy (moment + own.section.tail_sampling.decision_wait) s.waiting) (sym state) holds.due_by;
      timer = holds.timer;
      counted = subst (λ (s : State). IsCounted s) (sym state) holds.counted;
      within = subst (λ (s : State). IsWithinLimits s) (sym state) holds.within;
      few = holds.few;
      clock_by = holds.clock_by;
      reached_fits = holds.reached_fits;
      unsent_is = holds.unsent_is;
    }

-- ---- what is left out is counted

pub left_out_holds : (moment invalid over : ℕ) (gone held : List ℕ) (own : Pipeline) (p : Part TraceNote) → PipelineInvariantAt moment gone held own p → counted own.ledger + (invalid + over) ≤ most_counted →
    PipelineInvariantAt moment gone held (record own { ledger = left_out invalid over own.ledger }) p
left_out_holds moment invalid over gone held own p holds fits =
    let c = holds.counted in
    let w = holds.within in
    record {
      sound = holds.sound;
      first_is = holds.first_is;
      noted = holds.noted;
      rules_are = holds.rules_are;
      order = holds.order;
      due_by = holds.due_by;
      timer = holds.timer;
      counted = record {
        sound = record { each_once = c.sound.each_once; few = omega (arith, fits) };
        undecided_is = c.undecided_is;
        pending_is = c.pending_is;
        queued_is = c.queued_is;
        active_is = c.active_is;
        within_budget = c.within_budget;
      };
      within = record {
        rows_are = w.rows_are;
        queue_size_is = w.queue_size_is;
        queue_bytes_is = w.queue_bytes_is;
        num_consumers_is = w.num_consumers_is;
        queue_fits = w.queue_fits;
        queue_bytes_fit = w.queue_bytes_fit;
        active_fit = w.active_fit;
        queue_short = w.queue_short;
        active_short = w.active_short;
        sampled_size_is = w.sampled_size_is;
        other_size_is = w.other_size_is;
        sampled_fit = w.sampled_fit;
        others_fit = w.others_fit;
      };
      few = holds.few;
      clock_by = holds.clock_by;
      reached_fits = holds.reached_fits;
      unsent_is = holds.unsent_is;
    }

left_out_posting : (moment invalid over : ℕ) (journal : Journal) (held : List ℕ) (own : Pipeline) (p : Part TraceNote) → IsPosting moment journal held own p → counted own.ledger + (invalid + over) ≤ most_counted →
    IsPosting moment journal held (record own { ledger = left_out invalid over own.ledger }) p
left_out_posting moment invalid over journal held own p posting fits = record {
  holds = left_out_holds moment invalid over journal.undo.gone.items held own p posting.holds fits;
  quiet = posting.quiet;
  offers = posting.offers;
}

left_out_written : (invalid over : ℕ) (journal : Journal) (start own : Pipeline) (first p : Part TraceNote) → IsWritten journal start own first p → IsWritten journal start (record own { ledger = left_out invalid over own.ledger }) first p
left_out_written invalid over journal start own first p written =
    let undo = written.undo in
    record {
      trail = written.trail;
      undo = record { rows = undo.rows; ledger = undo.ledger; batcher = undo.batcher; mark = undo.mark; sender = undo.sender; offers = undo.offers; same = undo.same };
      hits = written.hits;
    }

-- a post of so many spans, of which some were valid and some of these taken, with what it leaves out
pub record Posted (moment all some taken : ℕ) (journal : Journal) (held : List ℕ) (own own' : Pipeline) (p : Part TraceNote) (s : State) : Type 0 where
  pub state : written_state_of own' p ≡ posted (verdict_of all some 0 taken) s (written_state_of own p)
  pub posting : IsPosting moment journal held own' p
  pub written : (start : Pipeline) (first : Part TraceNote) → IsWritten journal start own first p → IsWritten journal start own' first p
  pub same : IsSameTenant own own'

module _ (moment all some taken : ℕ) (journal : Journal) (held : List ℕ) (own own' : Pipeline) (p : Part TraceNote) (s : State)
    (posting : IsPosting moment journal held own p) (none : taken ≡ 0 → written_state_of own p ≡ s) (most : some ≤ all) (few : taken ≤ some)
    (fits : counted own.ledger + ((all - some) + (some - taken)) ≤ most_counted)
  where
    left : (invalid over : ℕ) → invalid + over ≤ (all - some) + (some - taken) → own' ≡ record own { ledger = left_out invalid over own.ledger } →
        (written_state_of own' p ≡ record (written_state_of own p) { ledger = left_out invalid over own.ledger }) × IsPosting moment journal held own' p
        × ((start : Pipeline) (first : Part TraceNote) → IsWritten journal start own first p → IsWritten journal start own' first p) × IsSameTenant own own'
    left invalid over less is = (
      ap (λ (o : Pipeline). written_state_of o p) is,
      subst (λ (o : Pipeline). IsPosting moment journal held o p) (sym is) (left_out_posting moment invalid over journal held own p posting (omega (arith, fits, less))),
      λ start first written. subst (λ (o : Pipeline). IsWritten journal start o first p) (sym is) (left_out_written invalid over journal start own first p written),
      record {
        tenant = ap (λ (o : Pipeline). o.tenant) is;
        section = ap (λ (o : Pipeline). o.section) is;
        clock = ap (λ (o : Pipeline). o.clock) is;
        drained = ap (λ (o : Pipeline). o.drained) is;
      },
    )

    abbrev Whole : Verdict → Type 0
    Whole v = (written_state_of own' p ≡ posted v s (written_state_of own p)) × IsPosting moment journal held own' p
        × ((start : Pipeline) (first : Part TraceNote) → IsWritten journal start own first p → IsWritten journal start own' first p) × IsSameTenant own own'

    by_tests : (a b : Bool) → nat_lt 0 taken ≡ a → IsPosted (cond a (accepted (all - some) (0 + some - taken)) (cond b (accepted (all - some) 0) exhausted)) own own' →
        Whole (cond a (accepted (all - some) (0 + some - taken)) (cond b (accepted (all - some) 0) exhausted))
    by_tests true b is post = left (all - some) (0 + some - taken) (omega arith) post
    by_tests false true is post = left (all - some) 0 (omega arith) post
    by_tests false false is post = (
      ap (λ (o : Pipeline). written_state_of o p) post ∙ none (none_taken taken is),
      subst (λ (o : Pipeline). IsPosting moment journal held o p) (sym post) posting,
      λ start first written. subst (λ (o : Pipeline). IsWritten journal start o first p) (sym post) written,
      record {
        tenant = ap (λ (o : Pipeline). o.tenant) post;
        section = ap (λ (o : Pipeline). o.section) post;
        clock = ap (λ (o : Pipeline). o.clock) post;
        drained = ap (λ (o : Pipeline). o.drained) post;
      },
    )

    pub post_is : IsPosted (verdict_of all some 0 taken) own own' → Posted moment all some taken journal held own own' p s
    post_is post =
        let whole = by_tests (nat_lt 0 taken) (some == 0) refl post in
        record { state = whole.0; posting = whole.1; written = whole.2; same = whole.3 }

-- ---- one span after the other

pub same_tenant : (one two three : Pipeline) → IsSameTenant one two → IsSameTenant two three → IsSameTenant one three
same_tenant one two three first last = record {
  tenant = last.tenant ∙ first.tenant;
  section = last.section ∙ first.section;
  clock = last.clock ∙ first.clock;
  drained = last.drained ∙ first.drained;
}

pub itself : (own : Pipeline) → IsSameTenant own own
itself own = record { tenant = refl; section = refl; clock = refl; drained = refl }

-- so many of the spans have come
pub record Placing (moment : ℕ) (origins : List OriginTexts) (spans : List NotedSpan) (index : ℕ) (held0 held : HeldOrigins) (journal0 journal : Journal) (own0 own : Pipeline) (p0 p : Part TraceNote) : Type 0 where
  pub rules : all_come moment (arrivals_in origins (drop index spans)) (written_state_of own p) ≡ all_come moment (arrivals_in origins spans) (written_state_of own0 p0)
  pub posting : IsPosting moment journal (held_keys held) own p
  pub held_at : AreHeldAt origins held p
  pub counted_by : counted own.ledger ≤ counted own0.ledger + index
  pub written : (start : Pipeline) (first : Part TraceNote) → IsWrittenWith journal0 held0 start own0 first p0 → IsWrittenWith journal held start own first p
  pub same : IsSameTenant own0 own

pub none_placed : (moment : ℕ) (origins : List OriginTexts) (spans : List NotedSpan) (held : HeldOrigins) (journal : Journal) (own : Pipeline) (p : Part TraceNote) → IsPosting moment journal (held_keys held) own p →
    AreHeldAt origins held p → Placing moment origins spans 0 held held journal journal own own p p
none_placed moment origins spans held journal own p posting held_at = record {
  rules = refl;
  posting = posting;
  held_at = held_at;
  counted_by = omega arith;
  written = λ start first written. written;
  same = itself own;
}

nth_of : (P : NotedSpan → Type 0) (xs : List NotedSpan) (i : ℕ) (d : NotedSpan) → AllByRecursion P xs → i < length xs → P (get_or xs i d)
nth_of P [] i d all within = absurd (omega arith)
nth_of P (x ∷ xs) zero d all within = all.0
nth_of P (x ∷ xs) (suc i) d all within = nth_of P xs i d all.1 (omega (arith, within))

module _ (moment : ℕ) (origins : List OriginTexts) (spans : List NotedSpan) (index : ℕ) (held0 held : HeldOrigins) (journal0 journal : Journal) (own0 own : Pipeline) (p0 p : Part TraceNote)
    (now : Placing moment origins spans index held0 held journal0 journal own0 own p0 p) (within : index < length spans) (span : NotedSpan) (item : span ≡ get_or spans index span)
  where
    -- the next of them, where each is ready
    pub is_next : AreReady (policies_of own0) origins spans → IsNext moment journal origins held span own p
    is_next ready =
        let policies : policies_of own0 ≡ policies_of own = ap (λ (x : Section). (section_view x).tail_sampling.policies) (sym now.same.section) in
        let here : IsReady (policies_of own0) origins span = subst (λ (x : NotedSpan). IsReady (policies_of own0) origins x) (sym item) (nth_of (IsReady (policies_of own0) origins) spans index span ready within) in
        record {
          posting = now.posting;
          held_at = now.held_at;
          ready = subst (λ (ps : List PolicyData). IsReady ps origins span) policies here;
        }

    pub one_placed : (held' : HeldOrigins) (journal' : Journal) (own' : Pipeline) (p' : Part TraceNote) → CameNext (come moment (prepared.arrival_in origins span)) moment journal' origins held' own own' p p' →
        ((start : Pipeline) (first : Part TraceNote) → IsWrittenWith journal held start own first p → IsWrittenWith journal' held' start own' first p') → IsSameTenant own own' →
        Placing moment origins spans (index + 1) held0 held' journal0 journal' own0 own' p0 p'
    one_placed held' journal' own' p' came written same =
        let rest = drop (index + 1) spans in
        let next : drop index spans ≡ span ∷ rest = drop_more spans index span within ∙ ap (λ (x : NotedSpan). x ∷ rest) (sym item) in
        record {
          rules = ap (all_come moment (arrivals_in origins rest)) came.rules
              ∙ (ap (λ (xs : List NotedSpan). all_come moment (arrivals_in origins xs) (written_state_of own p)) (sym next) ∙ now.rules);
          posting = came.posting;
          held_at = came.held_at;
          counted_by = let c = came.counted_by in let n = now.counted_by in omega (arith, c, n);
          written = λ start first before. written start first (now.written start first before);
          same = same_tenant own0 own own' now.same same;
        }

-- all have come
pub all_placed : (moment : ℕ) (origins : List OriginTexts) (spans : List NotedSpan) (index : ℕ) (held0 held : HeldOrigins) (journal0 journal : Journal) (own0 own : Pipeline) (p0 p : Part TraceNote) → Placing moment origins spans index held0 held journal0 journal own0 own p0 p →
    length spans ≤ index → written_state_of own p ≡ all_come moment (arrivals_in origins spans) (written_state_of own0 p0)
all_placed moment origins spans index held0 held journal0 journal own0 own p0 p now done =
    ap (λ (xs : List NotedSpan). all_come moment (arrivals_in origins xs) (written_state_of own p)) (sym (drop_all index spans done)) ∙ now.rules

-- how many of them were taken
pub record Count (spans : List NotedSpan) (own0 own : Pipeline) (s t : State) : Type 0 where
  pub taken : ℕ
  pub few : taken ≤ length spans
  pub accepted_is : own.ledger.accepted ≡ own0.ledger.accepted + taken
  pub counted_is : counted own.ledger ≡ counted own0.ledger + taken
  pub none : taken ≡ 0 → t ≡ s

pub count_of : (moment : ℕ) (origins : List OriginTexts) (spans : List NotedSpan) (own0 own : Pipeline) (p0 p : Part TraceNote) → written_state_of own p ≡ all_come moment (arrivals_in origins spans) (written_state_of own0 p0) →
    Count spans own0 own (written_state_of own0 p0) (written_state_of own p)
count_of moment origins spans own0 own p0 p is =
    let xs = arrivals_in origins spans in
    let takes = all_take moment xs (written_state_of own0 p0) in
    let size : length xs ≡ length spans = length-map spans (prepared.arrival_in origins) in
    let l : own.ledger ≡ (all_come moment xs (written_state_of own0 p0)).ledger = ap (λ (s : State). s.ledger) is in
    let few = takes.few in
    record {
      taken = takes.count;
      few = omega (arith, few, size);
      accepted_is = ap (λ (k : LedgerData). k.accepted) l ∙ takes.accepted_is;
      counted_is = ap (λ (k : LedgerData). counted k) l ∙ takes.counted_is;
      none = λ e. is ∙ takes.none e;
    }

-- ---- a body has come

pub all_valid : (policies : List PolicyData) (origins : List OriginTexts) (spans : List NotedSpan) → AreReady policies origins spans → AllByRecursion (λ a. is_valid a ≡ true) (arrivals_in origins spans)
all_valid policies origins [] ready = tt
all_valid policies origins (span ∷ spans) ready = (ready.0.valid, all_valid policies origins spans ready.1)

-- the spans that left in batches are no longer stored
pub left_spans : (moment : ℕ) (journal : Journal) (gone held : List ℕ) (own : Pipeline) (p q : Part TraceNote) → gone ≡ journal.undo.gone.items → IsPosting moment journal held own p →
    ((n : Counts) (pending left kept : List ℕ) → ((key : ℕ) → count key gone + count key left ≡ count key pending) → StoreInvariant n pending kept p → StoreInvariant n left kept q) →
    ((n : Counts) (pending left kept shown : List ℕ) → ((key : ℕ) → count key gone + count key left ≡ count key pending) → StoreInvariant n pending kept p → AreAmong shown left → view n shown q ≡ view n shown p) →
    (written_state_of own q ≡ written_state_of own p) × PipelineInvariantAt moment [] held own q
left_spans moment journal gone held own p q gone_is posting is_sound is_shown =
    let holds = posting.holds in
    let pending = journal.undo.gone.items ++ own.batcher.spans in
    let all : (key : ℕ) → count key gone + count key own.batcher.spans ≡ count key pending = λ key.
    let same = ap (count key) gone_is in
    let both = count-append key journal.undo.gone.items own.batcher.spans in
    omega (arith, same, both) in
    let sound = is_sound (counts_in own) pending own.batcher.spans held all holds.sound in
    let shows : view_in own q ≡ view_in own p = is_shown (counts_in own) pending own.batcher.spans held own.batcher.spans all holds.sound (λ key. omega arith) in
    (ap (state_by own) shows, held_over moment own.rows.swept journal.undo.gone.items [] held held own p q holds sound shows)

-- the verdict of what came is that of what was counted
pub verdict_is : (moment invalid valid taken : ℕ) (origins : List OriginTexts) (spans : List NotedSpan) (own0 own : Pipeline) (p0 p : Part TraceNote) →
    written_state_of own p ≡ all_come moment (arrivals_in origins spans) (written_state_of own0 p0) → valid ≡ length spans → own.ledger.accepted ≡ own0.ledger.accepted + taken →
    verdict_of (valid + invalid) valid own0.ledger.accepted (own0.ledger.accepted + taken) ≡ verdict_after (arrivals_in origins spans) invalid moment (written_state_of own0 p0)
verdict_is moment invalid valid taken origins spans own0 own p0 p is many more =
    let xs = arrivals_in origins spans in
    let before = own0.ledger.accepted in
    let size : valid ≡ length xs = many ∙ sym (length-map spans (prepared.arrival_in origins)) in
    let after : before + taken ≡ (all_come moment xs (written_state_of own0 p0)).ledger.accepted = sym more ∙ ap (λ (s : State). s.ledger.accepted) is in
    ap (λ (k : ℕ). verdict_of (k + invalid) k before (before + taken)) size ∙ ap (λ (k : ℕ). verdict_of (length xs + invalid) (length xs) before k) after

-- the post of which all spans came
pub record Ended (moment invalid valid taken : ℕ) (origins : List OriginTexts) (spans : List NotedSpan) (held : HeldOrigins) (journal : Journal) (own0 own own' : Pipeline) (p0 p : Part TraceNote) : Type 0 where
  pub taken_is : IsTaken (arrivals_in origins spans) invalid moment (written_state_of own0 p0) (written_state_of own' p)
  pub posted_is : Posted moment (valid + invalid) valid taken journal (held_keys held) own own' p (written_state_of own0 p0)

pub ended : (moment invalid valid taken : ℕ) (origins : List OriginTexts) (spans : List NotedSpan) (index : ℕ) (held0 held : HeldOrigins) (journal0 journal : Journal) (own0 own own' : Pipeline) (p0 p : Part TraceNote) →
    Placing moment origins spans index held0 held journal0 journal own0 own p0 p → length spans ≤ index → valid ≡ length spans → taken ≡ own.ledger.accepted - own0.ledger.accepted →
    counted own0.ledger + (length spans + invalid) ≤ most_counted → IsPosted (verdict_of (valid + invalid) valid 0 taken) own own' → Ended moment invalid valid taken origins spans held journal own0 own own' p0 p
ended moment invalid valid taken origins spans index held0 held journal0 journal own0 own own' p0 p now done many less fits post =
    let s = written_state_of own0 p0 in
    let is = all_placed moment origins spans index held0 held journal0 journal own0 own p0 p now done in
    let count = count_of moment origins spans own0 own p0 p is in
    let more = count.accepted_is in
    let few = count.few in
    let all = count.counted_is in
    let same : taken ≡ count.taken = omega (arith, less, more) in
    let none : taken ≡ 0 → written_state_of own p ≡ s = λ zero'. count.none (sym same ∙ zero') in
    let posted_ = post_is moment (valid + invalid) valid taken journal (held_keys held) own own' p s now.posting none (omega arith) (omega (arith, same, few, many)) (omega (arith, same, few, many, all, fits)) post in
    let verdict : verdict_of (valid + invalid) valid 0 taken ≡ verdict_after (arrivals_in origins spans) invalid moment s =
    sym (verdict_shifts (valid + invalid) valid own0.ledger.accepted taken) ∙ verdict_is moment invalid valid taken origins spans own0 own p0 p is many (omega (arith, more, same)) in
    record {
      taken_is = posted_.state ∙ (ap (λ (v : Verdict). posted v s (written_state_of own p)) verdict ∙ ap (posted (verdict_after (arrivals_in origins spans) invalid moment s) s) is);
      posted_is = posted_;
    }

-- ---- answers that may be refused

pub on_ok : {T E : Type 0} {P : Type 0} (r : Result T E) → P → OnOk r P
on_ok (Ok x) p = p
on_ok (Err e) p = tt

pub on_err : {T E : Type 0} {P : Type 0} (r : Result T E) → P → OnErr r P
on_err (Ok x) p = tt
on_err (Err e) p = p

pub on_ok_both : {T E : Type 0} {P Q R : Type 0} (r : Result T E) → (P → Q → R) → OnOk r P → OnOk r Q → OnOk r R
on_ok_both (Ok x) f p q = f p q
on_ok_both (Err e) f p q = tt

pub on_err_then : {T E : Type 0} {P Q : Type 0} (r : Result T E) → (P → Q) → OnErr r P → OnErr r Q
on_err_then (Ok x) f p = tt
on_err_then (Err e) f p = f p

-- ---- a body of which some origins were held

-- its origins were given back
pub body_left : (moment : ℕ) (own : Pipeline) (keys : List ℕ) (p q : Part TraceNote) → PipelineInvariantAt moment [] keys own p →
    ((n : Counts) (pending held : List ℕ) → StoreInvariant n pending (keys ++ held) p → StoreInvariant n pending held q) →
    ((n : Counts) (pending held shown : List ℕ) → StoreInvariant n pending (keys ++ held) p → AreAmong shown pending → view n shown q ≡ view n shown p) →
    (written_state_of own q ≡ written_state_of own p) × PipelineInvariantAt moment [] [] own q
body_left moment own keys p q holds is_sound shows =
    let n = counts_in own in
    let pending = own.batcher.spans in
    let held : StoreInvariant n pending (keys ++ []) p = subst (λ (ks : List ℕ). StoreInvariant n pending ks p) (sym (append-nil keys)) holds.sound in
    let same : view_in own q ≡ view_in own p = shows n pending [] pending held (λ key. omega arith) in
    (ap (state_by own) same, held_over moment own.rows.swept [] [] keys [] own p q holds (is_sound n pending [] held) same)
