-- A step behind which a replica doesn't lead, and one that is none of its peer's: the chains stand still, or take one event.
use Rattle.std.proofs.Common.{◌≡◌, ℕ, suc, ◌≤◌, List, [], ◌++◌, length, take, drop, map, Option, None, Bool, true, false, refl, ap, sym, subst, arith}
use Rattle.std.specs.Prelude.{◌==◌, ◌&&◌, nat_lt, not}
use Rattle.std.specs.List.{AllByRecursion, filter}
use Rattle.std.proofs.lemmas.Bool.{cond-false, both_ways, and_parts, ltb-true}
use Rattle.raft_log.specs.Log.{config_index}
use Rattle.raft_core.specs.declared.input.RaftInput.{RaftInput}
use Rattle.raft_core.specs.Core.{Core, is_leading}
use Rattle.raft_core.specs.Step.{stepped as raft_stepped}
use Rattle.raft_core.proofs.Lists.{all_both, all_of-map, all_through-map}
use Rattle.raft_group.specs.Group.{Group}
use Rattle.chain_leader.specs.declared.letter.Letter.{Letter}
use Rattle.chain_leader.specs.Leading.{Leading}
use Rattle.chain_world.specs.State.{Chains}
use Rattle.chain_world.specs.World.{is_part}
use Rattle.chain_world.specs.Ledger.{Ledger}
use Rattle.replica_model.specs.declared.packet.Place.{Place}
use Rattle.replica_model.specs.declared.packet.Packet.{Packet}
use Rattle.replica_model.specs.declared.input.Input.{Input}
use Rattle.replica_model.specs.declared.input.Tick.{Tick}
use Rattle.replica_model.specs.Spelling.{values_of}
use Rattle.replica_model.specs.Replica.{Row, Replica}
use Rattle.replica_model.specs.Letters.{Worked, packets_of, works}
use Rattle.replica_model.specs.Stepped.{Leaving, leaving, Viewed, Led, led_of, led_by, policy_behind, message_of, answer_row, is_confirmed, keeps_rows, row_with, leaves_of, raft_behind}
use Rattle.world_model.specs.State.{Space, home_of, moment_in}
use Rattle.world_model.specs.After.{decides_all, passes, ledger_behind}
use Rattle.world_model.specs.Chained.{HasLike, HasMade, HasLeaders, HasNoOther}
use Rattle.world_model.proofs.Following.{Followed}

-- a ledger stays where nothing is passed
pub stays_if : (sp : Space) (l : Ledger) (p : ℕ) (core : Core) → passes l p core ≡ false → ledger_behind sp l p core ≡ l
stays_if sp l p core off = cond-false (passes l p core) (decides_all sp.parts l p (values_of sp.spelling (drop (length (l.decided p)) (take core.commit core.log)))) l off

pub off_passes : (l : Ledger) (p : ℕ) (core : Core) → is_leading core.role ≡ false → passes l p core ≡ false
off_passes l p core off = ap (λ b. b && nat_lt (length (l.decided p)) core.commit) off

pub low_passes : (l : Ledger) (p : ℕ) (core : Core) → core.commit ≤ length (l.decided p) → passes l p core ≡ false
low_passes l p core low = go (passes l p core) refl
  where
    go : (b : Bool) → passes l p core ≡ b → passes l p core ≡ false
    go false e = e
    go true e = absurd (let a = ltb-true (length (l.decided p)) core.commit (and_parts (is_leading core.role) (nat_lt (length (l.decided p)) core.commit) e).1 in omega arith)

-- It doesn't lead behind the step.
module _ (sp : Space) (told : ℕ → Tick → Type 0) (p : ℕ) (part : is_part sp.parts p ≡ true) (c : Chains) (h : Group) (asked_at : ℕ → ℕ → ℕ) (r : Replica) (i : Input) (asked : RaftInput) (lead : Leading) (sender : Option Place) (read : Option Viewed)
    (off : is_leading (raft_stepped r.core asked).core.role ≡ false) (made : HasMade sp c p h.leaders) (led : HasLeaders c p h.leaders) (unled : HasNoOther c p h.leaders) where
  abbrev the_led : Led
  the_led = led_of (home_of sp p) r i (raft_stepped r.core asked) lead sender read false

  no_work : the_led.worked ≡ record { leading = led_by false lead (policy_behind r.lead.policy (raft_stepped r.core asked).began i); answers = []; rules = [] }
  no_work = cond-false (is_leading (raft_stepped r.core asked).core.role)
      (works (home_of sp p) r.core.me (raft_stepped r.core asked).core.term the_led.senders _ (led_by false lead (policy_behind r.lead.policy (raft_stepped r.core asked).began i)) (suc r.core.commit) (values_of sp.spelling (raft_stepped r.core asked).committed))
      (record { leading = led_by false lead (policy_behind r.lead.policy (raft_stepped r.core asked).began i); answers = []; rules = [] }) off

  no_rows : the_led.rows ≡ []
  no_rows = cond-false (keeps_rows r.core (raft_stepped r.core asked).core) (r.rows ++ row_with read r.core (raft_stepped r.core asked).core) [] keeps
    where
      and_off : (a b d e : Bool) → b ≡ false → ((a && b && d) && e) ≡ false
      and_off true b d e is = ap (λ x. (x && d) && e) is
      and_off false b d e is = refl

      keeps : keeps_rows r.core (raft_stepped r.core asked).core ≡ false
      keeps = and_off (is_leading r.core.role) (is_leading (raft_stepped r.core asked).core.role) ((raft_stepped r.core asked).core.term == r.core.term) (config_index (raft_stepped r.core asked).core.log == config_index r.core.log) off

  abbrev HasIt : Leaving → Type 0
  HasIt l = HasLike c.posts l.packet.from l.packet.to l.packet.body (moment_in (asked_at (raft_stepped r.core asked).core.term) l.round)

  mail_with : (w : Worked) → w.answers ≡ [] → w.rules ≡ [] → (rows : List Row) → rows ≡ []
      → AllByRecursion HasIt
      (leaves_of (home_of sp p) r.core.me (raft_stepped r.core asked) (record { on = false; senders = the_led.senders; hints = the_led.hints; rows = rows; worked = w; again = [] }))
  mail_with w answers rules rows none =
      let P : Leaving → Type 0 = HasIt in
      let a = map leaving (map (message_of p r.core.me) (raft_stepped r.core asked).sends) in
      let Q : List Packet → Type 0 = λ packets. AllByRecursion P (map leaving packets) in
      all_both P ((a ++ map leaving w.answers) ++ map (answer_row p r.core.me) (filter (is_confirmed (raft_stepped r.core asked).confirmed) rows)) (map leaving (packets_of p r.core.me (raft_stepped r.core asked).core.term the_led.hints None (w.rules ++ [])))
      (all_both P (a ++ map leaving w.answers) (map (answer_row p r.core.me) (filter (is_confirmed (raft_stepped r.core asked).confirmed) rows))
      (all_both P a (map leaving w.answers)
      (all_through-map (λ (packet : Packet). HasLike c.posts packet.from packet.to packet.body 0) P leaving (λ packet is. is) (map (message_of p r.core.me) (raft_stepped r.core asked).sends)
      (all_of-map (λ (packet : Packet). HasLike c.posts packet.from packet.to packet.body 0) (message_of p r.core.me) (λ send. tt) (raft_stepped r.core asked).sends))
      (subst Q (sym answers) tt))
      (subst (λ (xs : List Row). AllByRecursion P (map (answer_row p r.core.me) (filter (is_confirmed (raft_stepped r.core asked).confirmed) xs))) (sym none) tt))
      (subst (λ (xs : List Letter). AllByRecursion P (map leaving (packets_of p r.core.me (raft_stepped r.core asked).core.term the_led.hints None (xs ++ [])))) (sym rules) tt)

  pub followed_off : Followed sp told p c h asked_at (raft_behind (home_of sp p) r.core.me (raft_stepped r.core asked) the_led)
  followed_off = record {
    events = [];
    chains = c;
    is = refl;
    backed = tt;
    ledger = sym (stays_if sp c.ledger p (raft_stepped r.core asked).core (off_passes c.ledger p (raft_stepped r.core asked).core off));
    founded = refl;
    clients = refl;
    others = λ q u other. refl;
    posts = λ x has. has;
    made = made;
    led = led;
    unled = unled;
    replica = record {
      part = part;
      leads = λ l. absurd (both_ways (is_leading (raft_stepped r.core asked).core.role) off l);
      follows = λ o. record { rows = ap (filter (λ (row : Row). not (is_confirmed (raft_stepped r.core asked).confirmed row))) no_rows };
    };
    mail = mail_with the_led.worked (ap (λ (w : Worked). w.answers) no_work) (ap (λ (w : Worked). w.rules) no_work) the_led.rows no_rows;
  }
