-- Voters and learners together, from the last learner on.
use Rattle.std.proofs.Common.{◌≡◌, ℕ, zero, suc, ◌+◌, ◌<◌, ◌≤◌, List, [], ◌∷◌, length, drop, get_or, false, refl, ap, arith}
use Rattle.std.specs.Prelude.{◌==◌}
use Rattle.std.specs.List.{AllByRecursion, list_any}
use Rattle.std.proofs.Math.Seq.{drop-cons}
use Rattle.std.proofs.lemmas.List.{length-drop}
use Rattle.std.proofs.lemmas.Bool.{or_parts, or_from, ne_eqb}
use Rattle.raft_log.specs.declared.config.Config.{Config}
use Rattle.raft_log.specs.Config.{IsConfig}
use Rattle.raft_log.specs.Majority.{is_among}
use Rattle.raft_log.specs.Peers.{IsRisingAbove, IsPeers, put_among, joined}
use Rattle.raft_log.proofs.PeerLemmas.{length_put}
use Rattle.member_change.proofs.Members.{none_in-put}

length_joined : (voters learners : List ℕ) → length (joined voters learners) ≡ length voters + length learners
length_joined voters [] = omega arith
length_joined voters (id ∷ learners) = let h = length_joined voters learners in let e = length_put id (joined voters learners) in omega (arith, h, e)

none_joined : (x : ℕ) (voters learners : List ℕ) → is_among x voters ≡ false → is_among x learners ≡ false → is_among x (joined voters learners) ≡ false
none_joined x voters [] first second = first
none_joined x voters (id ∷ learners) first second =
    let p = or_parts (id == x) (is_among x learners) second in
    none_in-put id x (joined voters learners) p.0 (none_joined x voters learners first p.1)

none_above : (x low : ℕ) (xs : List ℕ) → x ≤ low → IsRisingAbove low xs → is_among x xs ≡ false
none_above x low [] le rising = refl
none_above x low (y ∷ xs) le rising = or_from (y == x) (is_among x xs) (ne_eqb y x (λ e. omega (arith, rising.0))) (none_above x y xs (omega (arith, rising.0)) rising.2)

fresh_at : (voters learners : List ℕ) (low i : ℕ) → AllByRecursion (λ id. list_any (λ peer. peer == id) voters ≡ false) learners → IsRisingAbove low learners → i < length learners
    → (low < get_or learners i 0) × (is_among (get_or learners i 0) (joined voters (drop (suc i) learners)) ≡ false)
fresh_at voters [] low i apart rising within = absurd (omega arith)
fresh_at voters (id ∷ learners) low zero apart rising within = (rising.0, none_joined id voters learners apart.0 (none_above id id learners (omega arith) rising.2))
fresh_at voters (id ∷ learners) low (suc i) apart rising within =
    let h = fresh_at voters learners id i apart.1 rising.2 (omega arith) in
    (omega (arith, h.0, rising.0), h.1)

pub record JoinsNext (config : Config) (left i : ℕ) : Type 0 where
  pub above : 0 < get_or config.learners i 0
  pub few : length (joined config.voters (drop left config.learners)) < 8
  pub apart : is_among (get_or config.learners i 0) (joined config.voters (drop left config.learners)) ≡ false
  pub is : joined config.voters (drop i config.learners) ≡ put_among (get_or config.learners i 0) (joined config.voters (drop left config.learners))

pub joins_next : (config : Config) (left i : ℕ) → IsConfig config → IsPeers config.learners → left ≡ suc i → left ≤ length config.learners → JoinsNext config left i
joins_next config left i is peers e within =
    let voters = config.voters in
    let learners = config.learners in
    let h = fresh_at voters learners 0 i is.apart peers.0 (omega (arith, e)) in
    let long = length_joined voters (drop left learners) in
    let short = length-drop left learners in
    let few = is.few in
    record {
      above = h.0;
      few = omega (arith, long, short, few, e, within);
      apart = rw e h.1;
      is = rw e (ap (joined voters) (drop-cons learners i 0 (omega (arith, e))));
    }
