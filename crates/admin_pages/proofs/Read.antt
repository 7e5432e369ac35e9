-- Counters that are read one after another.
use Rattle.std.proofs.Common.{◌≡◌, ℕ, List, [], ◌∷◌, ◌++◌, codes, decimal, Option, Some, None, refl, sym, ap, ◌∙◌, arith, append_assoc, append-nil}
use Rattle.drop_ledger.specs.Ledger.{LedgerData, LedgerInvariant, ledger_of}
use Rattle.drop_ledger.specs.Report.{counter, report_text}
use Rattle.admin_pages.specs.Report.{Reads}

-- what stood there before a number was read
before : (label : List ℕ) (old : Option (List ℕ)) (n : ℕ) (new : Option (List ℕ)) (rest : List ℕ) → Reads label old n new → new ≡ Some rest → old ≡ Some (label ++ decimal n ++ rest)
before label old n (Some other) rest reads is = let same : other ≡ rest = cc in reads.only ∙ ap (λ behind. Some (label ++ decimal n ++ behind)) same
before label old n None rest reads is = absurd (cc)

same_text : (a b : List ℕ) → Some a ≡ Some b → a ≡ b
same_text a b is = cc

-- texts with a space between each two, in the brackets of a report's line and from the first on
flat : (s c0 c1 c2 c3 c4 c5 c6 c7 c8 c9 c10 c11 c12 c13 : List ℕ)
    → c0 ++ s ++ (c1 ++ s ++ c2 ++ s ++ c3 ++ s ++ c4) ++ s ++ (c5 ++ s ++ c6 ++ s ++ c7 ++ s ++ c8) ++ s ++ (c9 ++ s ++ c10 ++ s ++ c11) ++ s ++ c12 ++ s ++ c13
    ≡ c0 ++ (s ++ (c1 ++ (s ++ (c2 ++ (s ++ (c3 ++ (s ++ (c4 ++ (s ++ (c5 ++ (s ++ (c6 ++ (s ++ (c7 ++ (s ++ (c8 ++ (s ++ (c9 ++ (s ++ (c10 ++ (s ++ (c11 ++ (s ++ (c12 ++ (s ++ (c13))))))))))))))))))))))))))
flat s c0 c1 c2 c3 c4 c5 c6 c7 c8 c9 c10 c11 c12 c13 = simp append_assoc

-- where all numbers were read and nothing is left, the text is the line that reports them
pub only_line : (text : List ℕ) (n0 n1 n2 n3 n4 n5 n6 n7 n8 n9 n10 n11 n12 n13 : ℕ) (o1 o2 o3 o4 o5 o6 o7 o8 o9 o10 o11 o12 o13 o14 : Option (List ℕ))
    → Reads (codes "accepted=") (Some text) n0 o1
    → Reads (codes " undecided=") o1 n1 o2
    → Reads (codes " pending=") o2 n2 o3
    → Reads (codes " queued=") o3 n3 o4
    → Reads (codes " active=") o4 n4 o5
    → Reads (codes " exported=") o5 n5 o6
    → Reads (codes " not_sampled=") o6 n6 o7
    → Reads (codes " too_early=") o7 n7 o8
    → Reads (codes " queue_full=") o8 n8 o9
    → Reads (codes " retry_exhausted=") o9 n9 o10
    → Reads (codes " back_end_refused=") o10 n10 o11
    → Reads (codes " back_end_rejected=") o11 n11 o12
    → Reads (codes " invalid=") o12 n12 o13
    → Reads (codes " over_budget=") o13 n13 o14
    → o14 ≡ Some [] → text ≡ report_text (ledger_of (n0 ∷ n1 ∷ n2 ∷ n3 ∷ n4 ∷ n5 ∷ n6 ∷ n7 ∷ n8 ∷ n9 ∷ n10 ∷ n11 ∷ n12 ∷ n13 ∷ []))
only_line text n0 n1 n2 n3 n4 n5 n6 n7 n8 n9 n10 n11 n12 n13 o1 o2 o3 o4 o5 o6 o7 o8 o9 o10 o11 o12 o13 o14 r0 r1 r2 r3 r4 r5 r6 r7 r8 r9 r10 r11 r12 r13 end =
    let e13 : o13 ≡ Some (codes " over_budget=" ++ decimal n13) = before (codes " over_budget=") o13 n13 o14 [] r13 end ∙ ap (λ t. Some t) (append-nil (codes " over_budget=" ++ decimal n13)) in
    let e12 : o12 ≡ Some (codes " invalid=" ++ decimal n12 ++ (codes " over_budget=" ++ decimal n13)) = before (codes " invalid=") o12 n12 o13 (codes " over_budget=" ++ decimal n13) r12 e13 in
    let e11 : o11 ≡ Some (codes " back_end_rejected=" ++ decimal n11 ++ (codes " invalid=" ++ decimal n12 ++ (codes " over_budget=" ++ decimal n13))) = before (codes " back_end_rejected=") o11 n11 o12 (codes " invalid=" ++ decimal n12 ++ (codes " over_budget=" ++ decimal n13)) r11 e12 in
    let e10 : o10 ≡ Some (codes " back_end_refused=" ++ decimal n10 ++ (codes " back_end_rejected=" ++ decimal n11 ++ (codes " invalid=" ++ decimal n12 ++ (codes " over_budget=" ++ decimal n13)))) = before (codes " back_end_refused=") o10 n10 o11 (codes " back_end_rejected=" ++ decimal n11 ++ (codes " invalid=" ++ decimal n12 ++ (codes " over_budget=" ++ decimal n13))) r10 e11 in
    let e9 : o9 ≡ Some (codes " retry_exhausted=" ++ decimal n9 ++ (codes " back_end_refused=" ++ decimal n10 ++ (codes " back_end_rejected=" ++ decimal n11 ++ (codes " invalid=" ++ decimal n12 ++ (codes " over_budget=" ++ decimal n13))))) = before (codes " retry_exhausted=") o9 n9 o10 (codes " back_end_refused=" ++ decimal n10 ++ (codes " back_end_rejected=" ++ decimal n11 ++ (codes " invalid=" ++ decimal n12 ++ (codes " over_budget=" ++ decimal n13)))) r9 e10 in
    let e8 : o8 ≡ Some (codes " queue_full=" ++ decimal n8 ++ (codes " retry_exhausted=" ++ decimal n9 ++ (codes " back_end_refused=" ++ decimal n10 ++ (codes " back_end_rejected=" ++ decimal n11 ++ (codes " invalid=" ++ decimal n12 ++ (codes " over_budget=" ++ decimal n13)))))) = before (codes " queue_full=") o8 n8 o9 (codes " retry_exhausted=" ++ decimal n9 ++ (codes " back_end_refused=" ++ decimal n10 ++ (codes " back_end_rejected=" ++ decimal n11 ++ (codes " invalid=" ++ decimal n12 ++ (codes " over_budget=" ++ decimal n13))))) r8 e9 in
    let e7 : o7 ≡ Some (codes " too_early=" ++ decimal n7 ++ (codes " queue_full=" ++ decimal n8 ++ (codes " retry_exhausted=" ++ decimal n9 ++ (codes " back_end_refused=" ++ decimal n10 ++ (codes " back_end_rejected=" ++ decimal n11 ++ (codes " invalid=" ++ decimal n12 ++ (codes " over_budget=" ++ decimal n13))))))) = before (codes " too_early=") o7 n7 o8 (codes " queue_full=" ++ decimal n8 ++ (codes " retry_exhausted=" ++ decimal n9 ++ (codes " back_end_refused=" ++ decimal n10 ++ (codes " back_end_rejected=" ++ decimal n11 ++ (codes " invalid=" ++ decimal n12 ++ (codes " over_budget=" ++ decimal n13)))))) r7 e8 in
    let e6 : o6 ≡ Some (codes " not_sampled=" ++ decimal n6 ++ (codes " too_early=" ++ decimal n7 ++ (codes " queue_full=" ++ decimal n8 ++ (codes " retry_exhausted=" ++ decimal n9 ++ (codes " back_end_refused=" ++ decimal n10 ++ (codes " back_end_rejected=" ++ decimal n11 ++ (codes " invalid=" ++ decimal n12 ++ (codes " over_budget=" ++ decimal n13)))))))) = before (codes " not_sampled=") o6 n6 o7 (codes " too_early=" ++ decimal n7 ++ (codes " queue_full=" ++ decimal n8 ++ (codes " retry_exhausted=" ++ decimal n9 ++ (codes " back_end_refused=" ++ decimal n10 ++ (codes " back_end_rejected=" ++ decimal n11 ++ (codes " invalid=" ++ decimal n12 ++ (codes " over_budget=" ++ decimal n13))))))) r6 e7 in
    let e5 : o5 ≡ Some (codes " exported=" ++ decimal n5 ++ (codes " not_sampled=" ++ decimal n6 ++ (codes " too_early=" ++ decimal n7 ++ (codes " queue_full=" ++ decimal n8 ++ (codes " retry_exhausted=" ++ decimal n9 ++ (codes " back_end_refused=" ++ decimal n10 ++ (codes " back_end_rejected=" ++ decimal n11 ++ (codes " invalid=" ++ decimal n12 ++ (codes " over_budget=" ++ decimal n13))))))))) = before (codes " exported=") o5 n5 o6 (codes " not_sampled=" ++ decimal n6 ++ (codes " too_early=" ++ decimal n7 ++ (codes " queue_full=" ++ decimal n8 ++ (codes " retry_exhausted=" ++ decimal n9 ++ (codes " back_end_refused=" ++ decimal n10 ++ (codes " back_end_rejected=" ++ decimal n11 ++ (codes " invalid=" ++ decimal n12 ++ (codes " over_budget=" ++ decimal n13)))))))) r5 e6 in
    let e4 : o4 ≡ Some (codes " active=" ++ decimal n4 ++ (codes " exported=" ++ decimal n5 ++ (codes " not_sampled=" ++ decimal n6 ++ (codes " too_early=" ++ decimal n7 ++ (codes " queue_full=" ++ decimal n8 ++ (codes " retry_exhausted=" ++ decimal n9 ++ (codes " back_end_refused=" ++ decimal n10 ++ (codes " back_end_rejected=" ++ decimal n11 ++ (codes " invalid=" ++ decimal n12 ++ (codes " over_budget=" ++ decimal n13)))))))))) = before (codes " active=") o4 n4 o5 (codes " exported=" ++ decimal n5 ++ (codes " not_sampled=" ++ decimal n6 ++ (codes " too_early=" ++ decimal n7 ++ (codes " queue_full=" ++ decimal n8 ++ (codes " retry_exhausted=" ++ decimal n9 ++ (codes " back_end_refused=" ++ decimal n10 ++ (codes " back_end_rejected=" ++ decimal n11 ++ (codes " invalid=" ++ decimal n12 ++ (codes " over_budget=" ++ decimal n13))))))))) r4 e5 in
    let e3 : o3 ≡ Some (codes " queued=" ++ decimal n3 ++ (codes " active=" ++ decimal n4 ++ (codes " exported=" ++ decimal n5 ++ (codes " not_sampled=" ++ decimal n6 ++ (codes " too_early=" ++ decimal n7 ++ (codes " queue_full=" ++ decimal n8 ++ (codes " retry_exhausted=" ++ decimal n9 ++ (codes " back_end_refused=" ++ decimal n10 ++ (codes " back_end_rejected=" ++ decimal n11 ++ (codes " invalid=" ++ decimal n12 ++ (codes " over_budget=" ++ decimal n13))))))))))) = before (codes " queued=") o3 n3 o4 (codes " active=" ++ decimal n4 ++ (codes " exported=" ++ decimal n5 ++ (codes " not_sampled=" ++ decimal n6 ++ (codes " too_early=" ++ decimal n7 ++ (codes " queue_full=" ++ decimal n8 ++ (codes " retry_exhausted=" ++ decimal n9 ++ (codes " back_end_refused=" ++ decimal n10 ++ (codes " back_end_rejected=" ++ decimal n11 ++ (codes " invalid=" ++ decimal n12 ++ (codes " over_budget=" ++ decimal n13)))))))))) r3 e4 in
    let e2 : o2 ≡ Some (codes " pending=" ++ decimal n2 ++ (codes " queued=" ++ decimal n3 ++ (codes " active=" ++ decimal n4 ++ (codes " exported=" ++ decimal n5 ++ (codes " not_sampled=" ++ decimal n6 ++ (codes " too_early=" ++ decimal n7 ++ (codes " queue_full=" ++ decimal n8 ++ (codes " retry_exhausted=" ++ decimal n9 ++ (codes " back_end_refused=" ++ decimal n10 ++ (codes " back_end_rejected=" ++ decimal n11 ++ (codes " invalid=" ++ decimal n12 ++ (codes " over_budget=" ++ decimal n13)))))))))))) = before (codes " pending=") o2 n2 o3 (codes " queued=" ++ decimal n3 ++ (codes " active=" ++ decimal n4 ++ (codes " exported=" ++ decimal n5 ++ (codes " not_sampled=" ++ decimal n6 ++ (codes " too_early=" ++ decimal n7 ++ (codes " queue_full=" ++ decimal n8 ++ (codes " retry_exhausted=" ++ decimal n9 ++ (codes " back_end_refused=" ++ decimal n10 ++ (codes " back_end_rejected=" ++ decimal n11 ++ (codes " invalid=" ++ decimal n12 ++ (codes " over_budget=" ++ decimal n13))))))))))) r2 e3 in
    let e1 : o1 ≡ Some (codes " undecided=" ++ decimal n1 ++ (codes " pending=" ++ decimal n2 ++ (codes " queued=" ++ decimal n3 ++ (codes " active=" ++ decimal n4 ++ (codes " exported=" ++ decimal n5 ++ (codes " not_sampled=" ++ decimal n6 ++ (codes " too_early=" ++ decimal n7 ++ (codes " queue_full=" ++ decimal n8 ++ (codes " retry_exhausted=" ++ decimal n9 ++ (codes " back_end_refused=" ++ decimal n10 ++ (codes " back_end_rejected=" ++ decimal n11 ++ (codes " invalid=" ++ decimal n12 ++ (codes " over_budget=" ++ decimal n13))))))))))))) = before (codes " undecided=") o1 n1 o2 (codes " pending=" ++ decimal n2 ++ (codes " queued=" ++ decimal n3 ++ (codes " active=" ++ decimal n4 ++ (codes " exported=" ++ decimal n5 ++ (codes " not_sampled=" ++ decimal n6 ++ (codes " too_early=" ++ decimal n7 ++ (codes " queue_full=" ++ decimal n8 ++ (codes " retry_exhausted=" ++ decimal n9 ++ (codes " back_end_refused=" ++ decimal n10 ++ (codes " back_end_rejected=" ++ decimal n11 ++ (codes " invalid=" ++ decimal n12 ++ (codes " over_budget=" ++ decimal n13)))))))))))) r1 e2 in
    let e0 : Some text ≡ Some (codes "accepted=" ++ decimal n0 ++ (codes " undecided=" ++ decimal n1 ++ (codes " pending=" ++ decimal n2 ++ (codes " queued=" ++ decimal n3 ++ (codes " active=" ++ decimal n4 ++ (codes " exported=" ++ decimal n5 ++ (codes " not_sampled=" ++ decimal n6 ++ (codes " too_early=" ++ decimal n7 ++ (codes " queue_full=" ++ decimal n8 ++ (codes " retry_exhausted=" ++ decimal n9 ++ (codes " back_end_refused=" ++ decimal n10 ++ (codes " back_end_rejected=" ++ decimal n11 ++ (codes " invalid=" ++ decimal n12 ++ (codes " over_budget=" ++ decimal n13)))))))))))))) = before (codes "accepted=") (Some text) n0 o1 (codes " undecided=" ++ decimal n1 ++ (codes " pending=" ++ decimal n2 ++ (codes " queued=" ++ decimal n3 ++ (codes " active=" ++ decimal n4 ++ (codes " exported=" ++ decimal n5 ++ (codes " not_sampled=" ++ decimal n6 ++ (codes " too_early=" ++ decimal n7 ++ (codes " queue_full=" ++ decimal n8 ++ (codes " retry_exhausted=" ++ decimal n9 ++ (codes " back_end_refused=" ++ decimal n10 ++ (codes " back_end_rejected=" ++ decimal n11 ++ (codes " invalid=" ++ decimal n12 ++ (codes " over_budget=" ++ decimal n13))))))))))))) r0 e1 in
    same_text text (codes "accepted=" ++ decimal n0 ++ (codes " undecided=" ++ decimal n1 ++ (codes " pending=" ++ decimal n2 ++ (codes " queued=" ++ decimal n3 ++ (codes " active=" ++ decimal n4 ++ (codes " exported=" ++ decimal n5 ++ (codes " not_sampled=" ++ decimal n6 ++ (codes " too_early=" ++ decimal n7 ++ (codes " queue_full=" ++ decimal n8 ++ (codes " retry_exhausted=" ++ decimal n9 ++ (codes " back_end_refused=" ++ decimal n10 ++ (codes " back_end_rejected=" ++ decimal n11 ++ (codes " invalid=" ++ decimal n12 ++ (codes " over_budget=" ++ decimal n13)))))))))))))) e0 ∙ sym (flat (codes " ") (counter (codes "accepted") n0) (counter (codes "undecided") n1) (counter (codes "pending") n2) (counter (codes "queued") n3) (counter (codes "active") n4) (counter (codes "exported") n5) (counter (codes "not_sampled") n6) (counter (codes "too_early") n7) (counter (codes "queue_full") n8) (counter (codes "retry_exhausted") n9) (counter (codes "back_end_refused") n10) (counter (codes "back_end_rejected") n11) (counter (codes "invalid") n12) (counter (codes "over_budget") n13))

-- of a ledger's line all numbers are read, and nothing is left
pub each_line : (text : List ℕ) (ledger : LedgerData) (n0 n1 n2 n3 n4 n5 n6 n7 n8 n9 n10 n11 n12 n13 : ℕ) (o1 o2 o3 o4 o5 o6 o7 o8 o9 o10 o11 o12 o13 o14 : Option (List ℕ))
    → Reads (codes "accepted=") (Some text) n0 o1
    → Reads (codes " undecided=") o1 n1 o2
    → Reads (codes " pending=") o2 n2 o3
    → Reads (codes " queued=") o3 n3 o4
    → Reads (codes " active=") o4 n4 o5
    → Reads (codes " exported=") o5 n5 o6
    → Reads (codes " not_sampled=") o6 n6 o7
    → Reads (codes " too_early=") o7 n7 o8
    → Reads (codes " queue_full=") o8 n8 o9
    → Reads (codes " retry_exhausted=") o9 n9 o10
    → Reads (codes " back_end_refused=") o10 n10 o11
    → Reads (codes " back_end_rejected=") o11 n11 o12
    → Reads (codes " invalid=") o12 n12 o13
    → Reads (codes " over_budget=") o13 n13 o14
    → LedgerInvariant ledger → text ≡ report_text ledger → (o14 ≡ Some []) × (ledger_of (n0 ∷ n1 ∷ n2 ∷ n3 ∷ n4 ∷ n5 ∷ n6 ∷ n7 ∷ n8 ∷ n9 ∷ n10 ∷ n11 ∷ n12 ∷ n13 ∷ []) ≡ ledger)
each_line text ledger n0 n1 n2 n3 n4 n5 n6 n7 n8 n9 n10 n11 n12 n13 o1 o2 o3 o4 o5 o6 o7 o8 o9 o10 o11 o12 o13 o14 r0 r1 r2 r3 r4 r5 r6 r7 r8 r9 r10 r11 r12 r13 sound is =
    let t13 : List ℕ = codes " over_budget=" ++ decimal ledger.over_budget in
    let t12 : List ℕ = codes " invalid=" ++ decimal ledger.invalid ++ t13 in
    let t11 : List ℕ = codes " back_end_rejected=" ++ decimal ledger.places.back_end_rejected ++ t12 in
    let t10 : List ℕ = codes " back_end_refused=" ++ decimal ledger.places.back_end_refused ++ t11 in
    let t9 : List ℕ = codes " retry_exhausted=" ++ decimal ledger.places.retry_exhausted ++ t10 in
    let t8 : List ℕ = codes " queue_full=" ++ decimal ledger.places.queue_full ++ t9 in
    let t7 : List ℕ = codes " too_early=" ++ decimal ledger.places.too_early ++ t8 in
    let t6 : List ℕ = codes " not_sampled=" ++ decimal ledger.places.not_sampled ++ t7 in
    let t5 : List ℕ = codes " exported=" ++ decimal ledger.places.exported ++ t6 in
    let t4 : List ℕ = codes " active=" ++ decimal ledger.places.active ++ t5 in
    let t3 : List ℕ = codes " queued=" ++ decimal ledger.places.queued ++ t4 in
    let t2 : List ℕ = codes " pending=" ++ decimal ledger.places.pending ++ t3 in
    let t1 : List ℕ = codes " undecided=" ++ decimal ledger.places.undecided ++ t2 in
    let start : text ≡ codes "accepted=" ++ decimal ledger.accepted ++ t1 = is ∙ flat (codes " ") (counter (codes "accepted") ledger.accepted) (counter (codes "undecided") ledger.places.undecided) (counter (codes "pending") ledger.places.pending) (counter (codes "queued") ledger.places.queued) (counter (codes "active") ledger.places.active) (counter (codes "exported") ledger.places.exported) (counter (codes "not_sampled") ledger.places.not_sampled) (counter (codes "too_early") ledger.places.too_early) (counter (codes "queue_full") ledger.places.queue_full) (counter (codes "retry_exhausted") ledger.places.retry_exhausted) (counter (codes "back_end_refused") ledger.places.back_end_refused) (counter (codes "back_end_rejected") ledger.places.back_end_rejected) (counter (codes "invalid") ledger.invalid) (counter (codes "over_budget") ledger.over_budget) in
    let s0 : (n0 ≡ ledger.accepted) × (o1 ≡ Some t1) = r0.each ledger.accepted t1 (omega arith) refl (ap (λ t. Some t) start) in
    let s1 : (n1 ≡ ledger.places.undecided) × (o2 ≡ Some t2) = r1.each ledger.places.undecided t2 (omega arith) refl s0.1 in
    let s2 : (n2 ≡ ledger.places.pending) × (o3 ≡ Some t3) = r2.each ledger.places.pending t3 (omega arith) refl s1.1 in
    let s3 : (n3 ≡ ledger.places.queued) × (o4 ≡ Some t4) = r3.each ledger.places.queued t4 (omega arith) refl s2.1 in
    let s4 : (n4 ≡ ledger.places.active) × (o5 ≡ Some t5) = r4.each ledger.places.active t5 (omega arith) refl s3.1 in
    let s5 : (n5 ≡ ledger.places.exported) × (o6 ≡ Some t6) = r5.each ledger.places.exported t6 (omega arith) refl s4.1 in
    let s6 : (n6 ≡ ledger.places.not_sampled) × (o7 ≡ Some t7) = r6.each ledger.places.not_sampled t7 (omega arith) refl s5.1 in
    let s7 : (n7 ≡ ledger.places.too_early) × (o8 ≡ Some t8) = r7.each ledger.places.too_early t8 (omega arith) refl s6.1 in
    let s8 : (n8 ≡ ledger.places.queue_full) × (o9 ≡ Some t9) = r8.each ledger.places.queue_full t9 (omega arith) refl s7.1 in
    let s9 : (n9 ≡ ledger.places.retry_exhausted) × (o10 ≡ Some t10) = r9.each ledger.places.retry_exhausted t10 (omega arith) refl s8.1 in
    let s10 : (n10 ≡ ledger.places.back_end_refused) × (o11 ≡ Some t11) = r10.each ledger.places.back_end_refused t11 (omega arith) refl s9.1 in
    let s11 : (n11 ≡ ledger.places.back_end_rejected) × (o12 ≡ Some t12) = r11.each ledger.places.back_end_rejected t12 (omega arith) refl s10.1 in
    let s12 : (n12 ≡ ledger.invalid) × (o13 ≡ Some t13) = r12.each ledger.invalid t13 (omega arith) refl s11.1 in
    let s13 : (n13 ≡ ledger.over_budget) × (o14 ≡ Some []) = r13.each ledger.over_budget [] (omega arith) refl (s12.1 ∙ ap (λ t. Some t) (sym (append-nil t13))) in
    (s13.1, rw (s0.0, s1.0, s2.0, s3.0, s4.0, s5.0, s6.0, s7.0, s8.0, s9.0, s10.0, s11.0, s12.0, s13.0) refl)
