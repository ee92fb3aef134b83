use Rattle.std.proofs.Common.{◌≡◌, List, ℕ, [], ◌∷◌, ◌++◌, false, filter, ap, subst, sym, ◌∙◌}
use Rattle.std.proofs.lemmas.List.{append-nil}
use Rattle.kv_part.proofs.Scan.{begins, is_from, scan, IsAhead, ahead, ended, under_is}
use Rattle.kv_part.proofs.map_store.MapStoreKeyStore.scan_prefix.Goals as goal

pub loop-key-init : goal.loop-key-init
loop-key-init c =
    let es = c.args.self.now.places.entries in
    let is : c.into_iter-key-iterator.result ≡ filter (is_from (λ k. k.items) c.args.prefix.now) es =
    c.into_iter-key-iterator.ensures.into_iter_gives ∙ c.range-key-items.ensures.between tt ∙ ap (λ (p : List ℕ). filter (is_from (λ k. k.items) p) es) c.in_ok-first.ensures.items in
    record {
      so_far = rw (c.new-pairs.ensures, is) (sym (under_is (λ k. k.items) c.args.prefix.now es c.range-key-items.ensures.ordered));
      ahead = rw is (ahead (λ k. k.items) c.args.prefix.now es c.range-key-items.ensures.ordered);
    }

pub returns-then-not-starts_with : goal.returns-then-not-starts_with
returns-then-not-starts_with c =
    let prefix = c.args.prefix.now in
    let key = c.in-Some.key.now in
    let e : c.loop-key.key-iterator ≡ (key, c.in-Some.place.now) ∷ c.next.new.self = c.in-Some.ensures.steps in
    let off : begins prefix key.items ≡ false = ap (begins prefix) (sym c.deref.ensures.value) ∙ sym c.starts_with.ensures.value ∙ c.if-not-starts_with.true in
    let is = subst (IsAhead (λ k. k.items) prefix) e c.loop-key.invariant.ahead in
    let none : scan (λ k. k.items) prefix c.loop-key.key-iterator ≡ [] = ap (scan (λ k. k.items) prefix) e ∙ ended (λ k. k.items) prefix key c.in-Some.place.now c.next.new.self is off in
    sym (append-nil c.loop-key.pairs) ∙ sym (ap (λ (more : List (List ℕ × List ℕ)). c.loop-key.pairs ++ more) none) ∙ c.loop-key.invariant.so_far
