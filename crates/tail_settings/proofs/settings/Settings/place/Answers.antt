use Rattle.std.proofs.Common.{rules, Ok, Err, sym}
use Rattle.std.proofs.lemmas.List.Sorted.{answers_always}
use Rattle.tail_settings.proofs.Tenants.{Entry}
use Rattle.tail_settings.proofs.Numbers.{searched}
use Rattle.tail_settings.proofs.settings.Settings.place.Goals as goal

-- the closure gives a tenant's number, and the tenants stand by number
pub returns-in-Ok : goal.returns-in-Ok
returns-in-Ok c =
    let s = c.args.self.now in
    let by_number = c.in-Ok.ensures.position (λ (e : Entry). e.1.number) (answers_always _ _ _ (λ f a r g called. search rules)) in
    sym (searched c.args.number s.tenants.entries s.rising (Ok c.in-Ok.place) c.in-Ok.ensures.bound by_number)

pub returns-in-Err : goal.returns-in-Err
returns-in-Err c =
    let s = c.args.self.now in
    let by_number = c.in-Err.ensures.position (λ (e : Entry). e.1.number) (answers_always _ _ _ (λ f a r g called. search rules)) in
    sym (searched c.args.number s.tenants.entries s.rising (Err _) c.in-Err.ensures.bound by_number)
