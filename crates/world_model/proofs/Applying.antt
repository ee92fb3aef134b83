-- The entries that a leader applies in one step, one by one in the world of chains.
use Rattle.std.proofs.Common.{◌≡◌, ℕ, suc, ◌+◌, ◌<◌, ◌≤◌, List, [], ◌∷◌, ◌++◌, length, take, Option, Some, None, Bool, true, false, refl, ap, sym, subst, ◌∙◌, arith, eqb-true}
use Rattle.std.specs.Prelude.{◌==◌, slice_get}
use Rattle.std.specs.List.{AllByRecursion}
use Rattle.std.proofs.lemmas.Bool.{cond-true}
use Rattle.std.proofs.lemmas.List.Elements.{filter_map-append}
use Rattle.raft_log.specs.Decided.{count_term}
use Rattle.raft_core.proofs.Lists.{all_both, all_weaker}
use Rattle.part_keys.specs.declared.entry.PartEntry.{PartEntry}
use Rattle.part_keys.specs.declared.proposal.Proposal.{Proposal}
use Rattle.part_keys.specs.declared.proposal.Proposal.TheVariants.{Start, Members, Made, Blank}
use Rattle.part_rules.specs.Machine as machines
use Rattle.part_rules.specs.Part.{Part}
use Rattle.part_rules.specs.Folded.{folded, item_applied as item_folded}
use Rattle.chain_leader.specs.declared.letter.Letter.{Letter}
use Rattle.chain_leader.specs.declared.letter.Letter.TheVariants.{Tell, Cross, Back, Again}
use Rattle.chain_leader.specs.declared.body.ChainBody.{ChainBody}
use Rattle.chain_leader.specs.declared.body.ChainBody.TheVariants as says
use Rattle.replica_model.specs.declared.packet.To.{To}
use Rattle.replica_model.specs.declared.packet.Body.{Body}
use Rattle.replica_model.specs.declared.packet.Body.TheVariants as body
use Rattle.chain_leader.specs.Leading.{Leading, Applies, on_item, on_item_by}
use Rattle.chain_world.specs.declared.event.ChainEvent.{ChainEvent}
use Rattle.chain_world.specs.declared.event.ChainEvent.TheVariants.{Apply}
use Rattle.chain_world.specs.declared.packet.ChainEnd.{ChainEnd}
use Rattle.chain_world.specs.State.{Chains, Leader, Post as ChainPost, decided_of, machine_behind as machine_of, addressed as chain_addressed, posts_of as chain_posts_of}
use Rattle.chain_world.specs.World.{is_part, own_sender, with_applied, after, run_from}
use Rattle.replica_model.specs.declared.packet.Place.{Place}
use Rattle.replica_model.specs.declared.packet.Packet.{Packet}
use Rattle.replica_model.specs.Letters.{packets_of, Worked, works}
use Rattle.world_model.specs.State.{Space, home_of}
use Rattle.world_model.specs.Grouped.{Has}
use Rattle.world_model.specs.Chained.{end_of, IsMailed, HasMail, HasLike, AreSendersOf}
use Rattle.world_model.proofs.Lists.{has_left, has_right}
use Rattle.world_model.proofs.Own.{own_applied}
use Rattle.world_model.proofs.Sending.{Like, AreSentThere, IsSentThere, letters_sent, KeepsToo, answers_are, answers_like}
use Rattle.world_model.proofs.Moving.{Moves, moves_twice, moves_with, apply_one, machine_more}
use Rattle.world_model.proofs.Backed.{IsPlain}

-- the entries stand in the list from a place on, with terms of at most t
abbrev pub StandOn : List (ℕ × Proposal) → ℕ → ℕ → List (ℕ × Proposal) → Type 0
StandOn decided t n [] = Unit {0}
StandOn decided t n (e ∷ entries) = (slice_get decided n ≡ Some e) × (e.0 ≤ t) × StandOn decided t (suc n) entries

-- the senders that a replica keeps of the first entries are kept by the chains' leader too
abbrev pub KeepsSenders : List (ℕ × Proposal) → ℕ → ℕ → (ℕ → Option Place) → (ℕ → Option ChainEnd) → Type 0
KeepsSenders decided t last ours theirs =
    (n : ℕ) (x : PartEntry) → n < last → slice_get decided n ≡ Some (t, Made x) → (s : Place) → ours (suc n) ≡ Some s
    → (e : ChainEnd) × (theirs (count_term (take n decided) t) ≡ Some e) × AreSendersOf x s e

-- what stands of a letter stands as packets are added
pub sent_on : (posts more : List ChainPost) (p t : ℕ) → ((x : ChainPost) → Has posts x → Has more x) → (letter : Letter) → IsSentThere posts p t letter → IsSentThere more p t letter
sent_on posts more p t grows (Tell id a) there = grows _ there
sent_on posts more p t grows (Cross q tries b) there = (grows _ there.0, there.1)
sent_on posts more p t grows (Back b) there = tt
sent_on posts more p t grows (Again after) there = grows _ there

-- and so does what stands of a packet
module _ (posts more : List ChainPost) (grows : (x : ChainPost) → Has posts x → Has more x) where
  mailed_on : (sender : Place) (whom : ChainEnd) (b : ChainBody) (m : ℕ) → IsMailed posts sender whom b m → IsMailed more sender whom b m
  mailed_on sender whom b m is = record { from = is.from; sent = is.sent; there = grows _ is.there }

  pub mail_on : (sender : Place) (whom : ChainEnd) (b : ChainBody) (m : ℕ) → HasMail posts sender whom b m → HasMail more sender whom b m
  mail_on sender whom (says.NotLeader other part hint) m is = tt
  mail_on sender whom (says.Request number x) m is = mailed_on sender whom _ m is
  mail_on sender whom (says.Answer number answer) m is = mailed_on sender whom _ m is
  mail_on sender whom (says.Remote term v list) m is = mailed_on sender whom _ m is
  mail_on sender whom (says.Done term v) m is = mailed_on sender whom _ m is
  mail_on sender whom (says.Stale term v above) m is = mailed_on sender whom _ m is
  mail_on sender whom (says.Fence term v edges) m is = mailed_on sender whom _ m is
  mail_on sender whom (says.Fenced term v written) m is = mailed_on sender whom _ m is
  mail_on sender whom (says.Resume term after) m is = mailed_on sender whom _ m is

  pub like_on : (from : Place) (whom : To) (b : Body) (m : ℕ) → HasLike posts from whom b m → HasLike more from whom b m
  like_on from whom (body.Raft message) m is = tt
  like_on from whom (body.Chain b) m is = mail_on from (end_of whom b) b m is

module _ (sp : Space) (p t me : ℕ) (part : is_part sp.parts p ≡ true) (ours : ℕ → Option Place) where
  -- what the entries leave, in the world of chains
  pub record HasApplied (c : Chains) (l : Leader) (n : ℕ) (w : Worked) : Type 0 where
    pub events : List ChainEvent
    pub behind : Chains
    pub is : run_from sp.ids sp.parts c events ≡ behind
    pub plain : AllByRecursion IsPlain events
    pub leader : Leader
    pub moves : Moves c behind p t leader
    pub lead : leader.lead ≡ w.leading
    pub applied_is : leader.applied ≡ n
    pub made : leader.made ≡ l.made
    pub senders : leader.senders ≡ l.senders
    pub answers : AllByRecursion (Like behind.posts p t) w.answers
    pub rules : AreSentThere behind.posts p t w.rules

  -- the answers of one item
  item_like : (posts : List ChainPost) (machine : Part) (l : Leading) (index : ℕ) (own : Bool) (x : Proposal) (theirs : Option ChainEnd)
      → ((y : PartEntry) → x ≡ Made y → KeepsToo own y (ours index) theirs)
      → ((q : ChainPost) → Has (chain_posts_of p t theirs (on_item_by sp.parts t machine l index own x).answers) q → Has posts q)
      → AllByRecursion (Like posts p t) (packets_of p me t (λ v. 0) (ours index) (on_item_by sp.parts t machine l index own x).answers)
  item_like posts machine l index true Start theirs keeps there = tt
  item_like posts machine l index false Start theirs keeps there = tt
  item_like posts machine l index own (Members config) theirs keeps there = tt
  item_like posts machine l index own (Made y) theirs keeps there =
      (let answer = (machines.applied sp.parts index y machine).1 in
      answers_like posts p me t (λ v. 0) own y theirs (ours index) (keeps y refl) _ (answers_are own y answer) there)
  item_like posts machine l index own Blank theirs keeps there = tt

  module _ (c : Chains) (l : Leader) (n : ℕ) (machine : Part) (e : ℕ × Proposal) (so_far : l.applied ≡ n) (machine_is : machine ≡ folded sp.parts (take n (decided_of c p)))
      (here : c.leaders p t ≡ Some l) (at : slice_get (decided_of c p) n ≡ Some e) (within : e.0 ≤ t) where
    abbrev made : Applies
    made = on_item sp.parts t machine l.lead (suc n) e

    abbrev theirs : Option ChainEnd
    theirs = own_sender c p t l e.0

    abbrev next_leader : Leader
    next_leader = record l { lead = made.leading; applied = suc l.applied }

    abbrev letters : List ChainPost
    letters = chain_posts_of p t theirs (made.answers ++ made.rules)

    abbrev next_chains : Chains
    next_chains = with_applied c p t l made theirs

    same_made : on_item sp.parts t (machine_of sp.parts c p l.applied) l.lead (suc l.applied) e ≡ made
    same_made =
        ap (λ m. on_item sp.parts t m l.lead (suc l.applied) e) (ap (λ k. folded sp.parts (take k (decided_of c p))) so_far ∙ sym machine_is)
        ∙ ap (λ k. on_item sp.parts t machine l.lead k e) (let q : suc l.applied ≡ suc n = omega arith in q)

    next_is : after sp.ids sp.parts c (Apply p t) ≡ next_chains
    next_is = apply_one sp.ids sp.parts p t part c l e here (ap (slice_get (decided_of c p)) so_far ∙ at) within ∙ ap (λ m. with_applied c p t l m theirs) same_made

    next_moves : Moves c next_chains p t next_leader
    next_moves = moves_with c p t next_leader letters

    split : letters ≡ chain_posts_of p t theirs made.answers ++ chain_posts_of p t theirs made.rules
    split = filter_map-append (chain_addressed p t theirs) made.answers made.rules

    answers_there : (q : ChainPost) → Has (chain_posts_of p t theirs made.answers) q → Has next_chains.posts q
    answers_there q h = has_right c.posts letters q (subst (λ xs. Has xs q) (sym split) (has_left (chain_posts_of p t theirs made.answers) (chain_posts_of p t theirs made.rules) q h))

    rules_there : (q : ChainPost) → Has (chain_posts_of p t theirs made.rules) q → Has next_chains.posts q
    rules_there q h = has_right c.posts letters q (subst (λ xs. Has xs q) (sym split) (has_right (chain_posts_of p t theirs made.answers) (chain_posts_of p t theirs made.rules) q h))

    rules_sent : AreSentThere next_chains.posts p t made.rules
    rules_sent = letters_sent next_chains.posts p t theirs made.rules (own_applied sp.parts p t machine l.lead (suc n) e) rules_there

    module _ (last : ℕ) (before : n < last) (keeps : KeepsSenders (decided_of c p) t last ours l.senders) where
      keeps_too : (y : PartEntry) → e.1 ≡ Made y → KeepsToo (e.0 == t) y (ours (suc n)) theirs
      keeps_too y is own s known =
          (let term : e.0 ≡ t = eqb-true e.0 t own in
          let there : slice_get (decided_of c p) n ≡ Some (t, Made y) = at ∙ ap (λ u. Some (u, e.1)) term ∙ ap (λ z. Some (t, z)) is in
          let k = keeps n y before there s known in (
            k.0,
            cond-true (e.0 == t) (l.senders (count_term (take l.applied (decided_of c p)) t)) None own
                ∙ ap (λ m. l.senders (count_term (take m (decided_of c p)) t)) so_far ∙ k.1,
            k.2,
          ))

      answers_sent : AllByRecursion (Like next_chains.posts p t) (packets_of p me t (λ v. 0) (ours (suc n)) made.answers)
      answers_sent = item_like next_chains.posts machine l.lead (suc n) (e.0 == t) e.1 theirs keeps_too answers_there

    next_machine : (item_folded sp.parts (suc n) e.1 machine).0 ≡ folded sp.parts (take (suc n) (decided_of c p))
    next_machine = ap (λ m. (item_folded sp.parts (suc n) e.1 m).0) machine_is ∙ sym (machine_more sp.parts (decided_of c p) n e at)

  pub apply_all : (entries : List (ℕ × Proposal)) (c : Chains) (l : Leader) (n : ℕ) (machine : Part) → l.applied ≡ n → machine ≡ folded sp.parts (take n (decided_of c p))
      → c.leaders p t ≡ Some l → StandOn (decided_of c p) t n entries → (last : ℕ) → n + length entries ≤ last → KeepsSenders (decided_of c p) t last ours l.senders
      → HasApplied c l (n + length entries) (works (home_of sp p) me t ours machine l.lead (suc n) entries)
  apply_all [] c l n machine so_far machine_is here stand last up_to keeps = record {
    events = [];
    behind = c;
    is = refl;
    plain = tt;
    leader = l;
    moves = record { ledger = refl; founded = refl; clients = refl; here = here; others = λ q u other. refl; posts = λ x h. h };
    lead = refl;
    applied_is = omega arith;
    made = refl;
    senders = refl;
    answers = tt;
    rules = tt;
  }
  apply_all (e ∷ entries) c l n machine so_far machine_is here stand last up_to keeps =
      let d = next_chains c l n machine e so_far machine_is here stand.0 stand.1 in
      let first = next_moves c l n machine e so_far machine_is here stand.0 stand.1 in
      let rest = apply_all entries d (next_leader c l n machine e so_far machine_is here stand.0 stand.1) (suc n) (item_folded sp.parts (suc n) e.1 machine).0
      (omega arith) (next_machine c l n machine e so_far machine_is here stand.0 stand.1) first.here stand.2 last (omega arith) keeps in
      record {
        events = Apply p t ∷ rest.events;
        behind = rest.behind;
        is = ap (λ x. run_from sp.ids sp.parts x rest.events) (next_is c l n machine e so_far machine_is here stand.0 stand.1) ∙ rest.is;
        plain = (tt, rest.plain);
        leader = rest.leader;
        moves = moves_twice first rest.moves;
        lead = rest.lead;
        applied_is = (let a = rest.applied_is in omega arith);
        made = rest.made;
        senders = rest.senders;
        answers = all_both (Like rest.behind.posts p t) _ _
            (all_weaker (Like d.posts p t) (Like rest.behind.posts p t) (λ (packet : Packet) like. like_on d.posts rest.behind.posts rest.moves.posts packet.from packet.to packet.body 0 like) _
            (answers_sent c l n machine e so_far machine_is here stand.0 stand.1 last (omega arith) keeps))
            rest.answers;
        rules = all_both (IsSentThere rest.behind.posts p t) _ _
            (all_weaker (IsSentThere d.posts p t) (IsSentThere rest.behind.posts p t) (sent_on d.posts rest.behind.posts p t rest.moves.posts) _
            (rules_sent c l n machine e so_far machine_is here stand.0 stand.1))
            rest.rules;
      }
