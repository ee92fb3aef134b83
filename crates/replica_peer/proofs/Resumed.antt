-- A step of Resume that is made ahead: what becomes of the replica.
use Rattle.std.proofs.Common.{◌≡◌, ℕ, List, [], ◌∷◌, Option, None, Some, Bool, true, false, refl, ap, ◌∙◌}
use Rattle.std.specs.Prelude.{◌||◌, not, if◌then◌else◌}
use Rattle.std.specs.FinMap.{get, contains_key, get-insert}
use Rattle.std.specs.List.{list_any}
use Rattle.std.specs.Option.{is_some}
use Rattle.std.specs.Ordering.{eq_by_cmp, nat_cmp}
use Rattle.std.proofs.lemmas.Bool.{both_ways}
use Rattle.maps.proofs.Keys.{nat_keys}
use Rattle.kv_part.specs.Store.{Contents}
use Rattle.part_keys.specs.declared.chain.ChainState.{ChainState}
use Rattle.chain_leader.specs.declared.letter.Letter.{Letter}
use Rattle.chain_leader.specs.Resuming.{taken_up_by, taken_up, all_taken_up}
use Rattle.chain_leader.specs.Rules.{Table}
use Rattle.chain_leader.specs.Table.{with_try}
use Rattle.replica_model.specs.Laws.{HintsStand}
use Rattle.replica_model.specs.Letters.{is_about, used}
use Rattle.replica_model.specs.Replica.{Replica}
use Rattle.replica_peer.specs.Next.{unhinted}
use Rattle.replica_peer.specs.Peer.{replica_of}
use Rattle.replica_peer.specs.Room.{IsSame}
use Rattle.replica_peer.specs.Stages.{told_by}
use Rattle.replica_peer.specs.declared.peer.Peer.{Peer}
use Rattle.replica_peer.proofs.Spent.{kept_either}
use Rattle.replica_peer.proofs.Staged.{told_about}

-- a chain that is in the table stays there
module _ (v : ℕ) where
  stays_by : (t : Table) (row : ℕ × ChainState) (o : Option ChainState) → contains_key t v ≡ true → contains_key (taken_up_by t row o) v ≡ true
  stays_by t row None there = ap is_some (get-insert nat_keys.total t row.0 row.1 v) ∙ kept_either (eq_by_cmp nat_cmp v row.0) row.1 (get t v) there
  stays_by t row (Some chain) there = ap is_some (get-insert nat_keys.total t row.0 (with_try chain) v) ∙ kept_either (eq_by_cmp nat_cmp v row.0) (with_try chain) (get t v) there

  stays : (rows : List (ℕ × ChainState)) (t : Table) → contains_key t v ≡ true → contains_key (all_taken_up rows t) v ≡ true
  stays [] t there = there
  stays (row ∷ rows) t there = stays rows (taken_up t row) (stays_by t row (get t row.0) there)

-- only the hints of the chains whose letters leave are used up
used_by : (sent gone : Bool) (n : ℕ) → (gone ≡ true → n ≡ 0) → (if sent then 0 else n) ≡ (if sent || gone then 0 else n)
used_by true gone n zero = refl
used_by false true n zero = zero refl
used_by false false n zero = refl

none_there : (r : Replica) → HintsStand r → (rows : List (ℕ × ChainState)) (v : ℕ) → not (contains_key (all_taken_up rows r.lead.table) v) ≡ true → r.hints v ≡ 0
none_there r stand rows v gone = by (contains_key r.lead.table v) refl
  where
    by : (b : Bool) → contains_key r.lead.table v ≡ b → r.hints v ≡ 0
    by true there = absurd (both_ways (not (contains_key (all_taken_up rows r.lead.table) v)) (ap not (stays v rows r.lead.table there)) gone)
    by false out = stand v out

hint_is : (r : Replica) → HintsStand r → (rows : List (ℕ × ChainState)) (letters : List Letter) (v : ℕ)
    → unhinted (told_by letters) r.hints v ≡ used r.hints (all_taken_up rows r.lead.table) letters v
hint_is r stand rows letters v =
    ap (λ (b : Bool). if b then 0 else r.hints v) (told_about letters v)
    ∙ used_by (list_any (is_about v) letters) (not (contains_key (all_taken_up rows r.lead.table) v)) (r.hints v) (none_there r stand rows v)

-- what becomes of the replica, by the rows and the chains that are told
pub resumes_to : (r : Replica) → HintsStand r → (rows : List (ℕ × ChainState)) (told : List ℕ) (letters : List Letter) (table : Table)
    → all_taken_up rows r.lead.table ≡ table → told ≡ told_by letters
    → record r { lead = record r.lead { table = all_taken_up rows r.lead.table }; hints = unhinted told r.hints }
    ≡ record r { lead = record r.lead { table = table }; hints = used r.hints table letters }
resumes_to r stand rows told letters table is told_is =
    ap (λ (told : List ℕ). record r { lead = record r.lead { table = all_taken_up rows r.lead.table }; hints = unhinted told r.hints }) told_is
    ∙ (λ j. record r { lead = record r.lead { table = all_taken_up rows r.lead.table }; hints = λ v. hint_is r stand rows letters v j })
    ∙ ap (λ (t : Table). record r { lead = record r.lead { table = t }; hints = used r.hints t letters }) is

-- a table that is the same, with other room
pub table_same : {S : Type 0} (meaning : S → Contents) (has_at : S → List ℕ → Bool) (a : Peer S) (table : Table × ℕ) → table.0 ≡ a.state.leader.table.0
    → IsSame meaning has_at a (record a { state = record a.state { leader = record a.state.leader { table = table } } })
table_same meaning has_at a table same = record {
  replica = λ j. record (replica_of a) { lead = record (replica_of a).lead { table = same j } };
  home = refl;
  setting = refl;
  next = refl;
  shows = λ p entries is. (entries, is);
}
