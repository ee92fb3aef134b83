-- What is kept by part, by client and by seat: what is there behind a change.
use Rattle.std.proofs.Common.{◌≡◌, ℕ, List, [], Option, None, Some, Bool, true, false, cond, inl, inr, refl, ap, sym, ◌∙◌}
use Rattle.std.specs.Prelude.{◌==◌, ◌&&◌, if◌then◌else◌}
use Rattle.std.specs.declared.cmp.Ordering.{Ordering}
use Rattle.std.specs.declared.cmp.Ordering.TheVariants.{Less, Equal, Greater}
use Rattle.std.specs.FinMap.{FinMap, get, insert, remove, empty, get-insert, get-remove, get-empty}
use Rattle.std.specs.Option.{option_map, unwrap_or}
use Rattle.std.specs.Ordering.{eq_by_cmp, is_eq, nat_cmp, ordering_then}
use Rattle.std.proofs.lemmas.Bool.{eq-eqb, ne_eqb}
use Rattle.maps.proofs.Keys.{nat_keys, same_or_apart, same_itself, not_apart}
use Rattle.chain_run.specs.declared.callers.Caller.{Caller}
use Rattle.chain_run.specs.declared.leaders.Seated.{Seated}
use Rattle.chain_run.specs.Seats.{seat_cmp}
use Rattle.chain_run.specs.Shows.{list_in, leader_of, seat, leader_in, client_of, client_in}
use Rattle.chain_run.proofs.Seats.{seat_keys}

-- numbers are told apart by their order
pub told : (q k : ℕ) → eq_by_cmp nat_cmp q k ≡ (q == k)
told q k = elim (same_or_apart nat_keys q k) as (λ _. eq_by_cmp nat_cmp q k ≡ (q == k)) [
  | inl same ↦ ap (λ x. eq_by_cmp nat_cmp q x) (sym same) ∙ same_itself nat_keys q ∙ sym (eq-eqb q k same)
  | inr apart ↦ apart ∙ sym (ne_eqb q k (λ same. not_apart nat_keys q k same apart))
]

both_told : (r s : Ordering) → is_eq (ordering_then r s) ≡ (is_eq r && is_eq s)
both_told Less s = refl
both_told Equal s = refl
both_told Greater s = refl

pub seat_told : (q u p t : ℕ) → eq_by_cmp seat_cmp (seat q u) (seat p t) ≡ ((q == p) && (u == t))
seat_told q u p t = both_told (nat_cmp q p) (nat_cmp u t) ∙ (λ i. told q p i && told u t i)

twice : {X : Type 0} (b : Bool) (x y z : X) → cond b x (cond b y z) ≡ cond b x z
twice true x y z = refl
twice false x y z = refl

through : {X Y : Type 0} (f : X → Y) (b : Bool) (x y : X) → f (cond b x y) ≡ cond b (f x) (f y)
through f true x y = refl
through f false x y = refl

module _ {X : Type 0} where
  pub put_at : (m : FinMap nat_cmp X) (k : ℕ) (v : X) (q : ℕ) → get (insert m k v) q ≡ (if q == k then Some v else get m q)
  put_at m k v q = get-insert nat_keys.total m k v q ∙ ap (λ b. cond b (Some v) (get m q)) (told q k)

  pub out_at : (m : FinMap nat_cmp X) (k q : ℕ) → get (remove m k) q ≡ (if q == k then None else get m q)
  out_at m k q = get-remove nat_keys.total m k q ∙ ap (λ b. cond b None (get m q)) (told q k)

  again_at : (m : FinMap nat_cmp X) (k : ℕ) (v : X) (q : ℕ) → get (insert (remove m k) k v) q ≡ (if q == k then Some v else get m q)
  again_at m k v q = put_at (remove m k) k v q ∙ ap (λ o. cond (q == k) (Some v) o) (out_at m k q) ∙ twice (q == k) (Some v) None (get m q)

-- nothing is kept
pub list_none : {X : Type 0} → list_in (empty {X = List X} {R = nat_cmp}) ≡ (λ (p : ℕ). [])
list_none {X = X} = λ i p. ap (λ (o : Option (List X)). unwrap_or o []) (get-empty nat_cmp p) i

pub client_none : client_in empty ≡ (λ (c : ℕ). record { last = 0; asks = None })
client_none = λ i c. ap client_of (get-empty nat_cmp c) i

pub leader_none : leader_in empty ≡ (λ (p t : ℕ). None)
leader_none = λ i p t. ap (option_map leader_of) (get-empty seat_cmp (seat p t)) i

-- the list of one part is another now
pub listed : {X : Type 0} (m : FinMap nat_cmp (List X)) (p : ℕ) (list : List X) → list_in (insert (remove m p) p list) ≡ (λ (q : ℕ). if q == p then list else list_in m q)
listed m p list = λ i q. (ap (λ o. unwrap_or o []) (again_at m p list q) ∙ through (λ o. unwrap_or o []) (q == p) (Some list) (get m q)) i

-- senders
pub sender_kept : {X : Type 0} (m : FinMap nat_cmp X) (k : ℕ) (v : X) → get (insert m k v) ≡ (λ (n : ℕ). if n == k then Some v else get m n)
sender_kept m k v = λ i n. put_at m k v n i

pub sender_gone : {X : Type 0} (m : FinMap nat_cmp X) (k : ℕ) → get (remove m k) ≡ (λ (n : ℕ). if n == k then None else get m n)
sender_gone m k = λ i n. out_at m k n i

-- one client is another now
pub called : (m : FinMap nat_cmp Caller) (c : ℕ) (caller : Caller) → client_in (insert m c caller) ≡ (λ (d : ℕ). if d == c then client_of (Some caller) else client_in m d)
called m c caller = λ i d. (ap client_of (put_at m c caller d) ∙ through client_of (d == c) (Some caller) (get m d)) i

-- a leader is there, or another than before
module _ (m : FinMap seat_cmp Seated) (p t : ℕ) (l : Seated) where
  seat_put : (q u : ℕ) → get (insert m (seat p t) l) (seat q u) ≡ cond ((q == p) && (u == t)) (Some l) (get m (seat q u))
  seat_put q u = get-insert seat_keys.total m (seat p t) l (seat q u) ∙ ap (λ b. cond b (Some l) (get m (seat q u))) (seat_told q u p t)

  pub seated : leader_in (insert m (seat p t) l) ≡ (λ (q u : ℕ). if (q == p) && (u == t) then Some (leader_of l) else leader_in m q u)
  seated = λ i q u. (ap (option_map leader_of) (seat_put q u) ∙ through (option_map leader_of) ((q == p) && (u == t)) (Some l) (get m (seat q u))) i

seat_out : (m : FinMap seat_cmp Seated) (p t q u : ℕ) → get (remove m (seat p t)) (seat q u) ≡ cond ((q == p) && (u == t)) None (get m (seat q u))
seat_out m p t q u = get-remove seat_keys.total m (seat p t) (seat q u) ∙ ap (λ b. cond b None (get m (seat q u))) (seat_told q u p t)

pub seated_again : (m : FinMap seat_cmp Seated) (p t : ℕ) (l : Seated) → leader_in (insert (remove m (seat p t)) (seat p t) l) ≡ (λ (q u : ℕ). if (q == p) && (u == t) then Some (leader_of l) else leader_in m q u)
seated_again m p t l = seated (remove m (seat p t)) p t l ∙ (λ i q u. (ap (λ o. cond ((q == p) && (u == t)) (Some (leader_of l)) (option_map leader_of o)) (seat_out m p t q u)
    ∙ ap (λ o. cond ((q == p) && (u == t)) (Some (leader_of l)) o) (through (option_map leader_of) ((q == p) && (u == t)) None (get m (seat q u)))
    ∙ twice ((q == p) && (u == t)) (Some (leader_of l)) None (leader_in m q u)) i)
