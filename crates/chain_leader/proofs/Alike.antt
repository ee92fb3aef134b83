-- Leaders that agree but in tries and hints do the same, and agree again.
use Rattle.std.proofs.Common.{◌≡◌, ℕ, List, [], ◌∷◌, ◌++◌, Option, None, Some, Bool, true, false, cond, refl, ap, sym, ◌∙◌, subst}
use Rattle.std.specs.Prelude.{◌==◌, ◌&&◌, take}
use Rattle.std.specs.Option.{option_map}
use Rattle.std.specs.FinMap.{get, contains_key}
use Rattle.std.proofs.lemmas.List.{map-append}
use Rattle.std.proofs.lemmas.Option.{same_Some}
use Rattle.graph_model.specs.Ops.{edges_in}
use Rattle.part_keys.specs.declared.chain.PrimeRec.{PrimeRec}
use Rattle.part_keys.specs.declared.chain.ChainState.{ChainState}
use Rattle.part_keys.specs.declared.chain.ChainMsg.{ChainMsg}
use Rattle.part_keys.specs.declared.chain.ChainMsg.TheVariants as send
use Rattle.part_keys.specs.declared.chain.Policy.{Policy}
use Rattle.part_keys.specs.declared.entry.PartEntry.{PartEntry}
use Rattle.part_keys.specs.declared.entry.PartEntry.TheVariants as entry
use Rattle.part_keys.specs.declared.proposal.Proposal.{Proposal}
use Rattle.part_keys.specs.declared.proposal.Proposal.TheVariants.{Start, Members, Made, Blank}
use Rattle.part_keys.specs.declared.vid_kind.VidKind.{VidKind}
use Rattle.part_keys.specs.Routing.{is_payload}
use Rattle.part_rules.specs.declared.applied.Applied.{Applied}
use Rattle.part_rules.specs.declared.applied.Applied.TheVariants.{Begun}
use Rattle.part_rules.specs.Part.{Part}
use Rattle.part_rules.specs.Machine.{applied}
use Rattle.chain_leader.specs.declared.body.ChainBody.{ChainBody}
use Rattle.chain_leader.specs.declared.body.ChainBody.TheVariants as says
use Rattle.chain_leader.specs.declared.letter.Letter.{Letter}
use Rattle.chain_leader.specs.declared.letter.Letter.TheVariants.{Cross}
use Rattle.chain_leader.specs.Calls.{is_write}
use Rattle.chain_leader.specs.Rules.{Table}
use Rattle.chain_leader.specs.Leading.{Leading, Taken, Ruled, still, proposing, asking, listed, body_of, number_in, sends_by, sends, standing_behind, and_then, resumes_all, onward, resuming, taken, chain_in, forgetting, begins, ruled_by, ruled, answers_of, on_entry, started, on_item_by}
use Rattle.chain_leader.specs.Laws.{bare, SameChains, SameMade, SameLeading, unrouted, SameLetters, SameTaken, SameApplies, LeadAlike}
use Rattle.chain_leader.proofs.Blind as blinds
use Rattle.chain_leader.proofs.Blind.{same_put, same_out, by_test}

-- tables that agree, and the same letters but for tries
record SameSent (made other : Ruled) : Type 0 where
  tables : SameChains made.table other.table
  letters : SameLetters made.letters other.letters

-- a chain's message says the same, whatever its tries
same_body : (term : ℕ) (c d : ChainState) → bare c ≡ bare d → (message : ChainMsg) → body_of term c message ≡ body_of term d message
same_body term c d e (send.Remote v) = ap (λ (b : ChainState). says.Remote term v b.list) e
same_body term c d e (send.Fence v) = ap (λ (b : ChainState). says.Fence term v (edges_in b.list)) e

-- letters behind letters
same_letters : (xs ys zs ws : List Letter) → SameLetters xs zs → SameLetters ys ws → SameLetters (xs ++ ys) (zs ++ ws)
same_letters xs ys zs ws e f = map-append unrouted xs ys ∙ (λ i. e i ++ f i) ∙ sym (map-append unrouted zs ws)

module _ (term : ℕ) where
  -- a message of chains that agree leaves from both tables
  same_sends_by : (t u : Table) → SameChains t u → (message : ChainMsg) (o p : Option ChainState) → option_map bare o ≡ option_map bare p → SameSent (sends_by term t message o) (sends_by term u message p)
  same_sends_by t u s message None None e = record { tables = s; letters = refl }
  same_sends_by t u s message (Some c) (Some d) e =
      let f : bare c ≡ bare d = same_Some _ _ e in
      record {
        tables = s;
        letters = λ i. Cross (f i).remote 0 (same_body term c d f message i) ∷ [];
      }
  same_sends_by t u s message None (Some d) e = absurd (cc)
  same_sends_by t u s message (Some c) None e = absurd (cc)

  -- the same message leaves
  same_sends : (made other : Table × ChainMsg) → SameMade made other → SameSent (sends term made) (sends term other)
  same_sends made other h = subst (λ m. SameSent (sends term made) (sends term (other.0, m))) h.answer
      (same_sends_by made.0 other.0 h.tables made.1 (get made.0 (number_in made.1)) (get other.0 (number_in made.1)) (h.tables.at (number_in made.1)))

  -- one rule after another
  same_then : (made other : Ruled) (f g : Table → Ruled) → SameSent made other → ((t u : Table) → SameChains t u → SameSent (f t) (g u)) → SameSent (and_then made f) (and_then other g)
  same_then made other f g h rest = let then = rest made.table other.table h.tables in
      record { tables = then.tables; letters = same_letters made.letters (f made.table).letters other.letters (g other.table).letters h.letters then.letters }

  -- the same chains are taken up
  same_resumes_all : (policy : Policy) (chains : List (ℕ × PrimeRec)) (t u : Table) → SameChains t u → SameSent (resumes_all term policy chains t) (resumes_all term policy chains u)
  same_resumes_all policy [] t u s = record { tables = s; letters = refl }
  same_resumes_all policy (c ∷ chains) t u s =
      same_then _ _ (resumes_all term policy chains) (resumes_all term policy chains) (same_sends _ _ ((blinds.blind t u s).resumed c.1 policy)) (same_resumes_all policy chains)

  -- the same chain begins
  same_begins : (t u : Table) → SameChains t u → (o : Option PrimeRec) → SameSent (begins term t o) (begins term u o)
  same_begins t u s None = record { tables = s; letters = refl }
  same_begins t u s (Some rec) = same_sends _ _ ((blinds.blind t u s).primed rec)

  -- the rules make the same of an answer
  same_ruled_by : (ready : Bool) (t u : Table) → SameChains t u → (behind : Part) (said : Applied) → SameSent (ruled_by ready term t behind said) (ruled_by ready term u behind said)
  same_ruled_by true t u s behind (Begun v) = same_begins t u s (get behind.chains v)
  same_ruled_by false t u s behind (Begun v) = record { tables = s; letters = refl }
  same_ruled_by true t u s behind other = record { tables = s; letters = refl }
  same_ruled_by false t u s behind other = record { tables = s; letters = refl }

-- the same chain is forgotten
same_forgetting : (t u : Table) → SameChains t u → (behind : Part) (o : Option ℕ) → SameChains (forgetting t behind o) (forgetting u behind o)
same_forgetting t u s behind None = s
same_forgetting t u s behind (Some v) = by_test (contains_key behind.chains v) (contains_key behind.chains v) refl SameChains _ _ _ _ s (same_out t u v s)

module _ (l m : Leading) (s : SameLeading l m) where
  -- the leaders behind tables that agree
  with_tables : (t u : Table) → SameChains t u → SameLeading (record l { table = t }) (record m { table = u })
  with_tables t u h = record { ready = s.ready; policy = s.policy; tables = h }

  -- both do nothing
  same_still : SameTaken (still l) (still m)
  same_still = record { leading = s; proposals = refl; letters = refl }

  -- both propose the entry, or neither does
  same_proposing : (ids : VidKind) (parts part : ℕ) (x : PartEntry) → SameTaken (proposing ids parts part l x) (proposing ids parts part m x)
  same_proposing ids parts part x = by_test (is_payload ids parts part x) (is_payload ids parts part x) refl SameTaken _ _ _ _ (record { leading = s; proposals = refl; letters = refl }) same_still

  -- both propose what a rule gives
  same_asking : (made other : Table × Option PartEntry) → SameMade made other → SameTaken (asking l made) (asking m other)
  same_asking made other h = record { leading = with_tables made.0 other.0 h.tables; proposals = ap listed h.answer; letters = refl }

  -- a step of Resume
  same_resuming : (term : ℕ) (chains : List (ℕ × PrimeRec)) → SameTaken (resuming term l chains) (resuming term m chains)
  same_resuming term chains =
      let h = same_by_policy l.policy m.policy s.policy in
      record { leading = with_tables _ _ h.tables; proposals = refl; letters = same_letters _ (onward chains) _ (onward chains) h.letters refl }
    where
      same_by_policy : (p q : Policy) → p ≡ q → SameSent (resumes_all term p (take 64 chains) l.table) (resumes_all term q (take 64 chains) m.table)
      same_by_policy p q e = subst (λ x. SameSent (resumes_all term p (take 64 chains) l.table) (resumes_all term x (take 64 chains) m.table)) e (same_resumes_all term p (take 64 chains) l.table m.table s.tables)

  -- what is taken by a ready leader, in its own term
  where_ready : (own : Bool) (made other : Taken) → SameTaken made other → SameTaken (cond (l.ready && own) made (still l)) (cond (m.ready && own) other (still m))
  where_ready own made other h = by_test (l.ready && own) (m.ready && own) (ap (λ r. r && own) s.ready) SameTaken _ _ _ _ h same_still

  -- a packet, by what it says
  same_taken : (ids : VidKind) (parts part term : ℕ) (machine : Part) (body : ChainBody) (from : ℕ) → SameTaken (taken ids parts part term machine l body from) (taken ids parts part term machine m body from)
  same_taken ids parts part term machine (says.Request number x) from = by_test (is_write x) (is_write x) refl SameTaken _ _ _ _ (same_proposing ids parts part x) same_still
  same_taken ids parts part term machine (says.Answer number answer) from = same_still
  same_taken ids parts part term machine (says.NotLeader about other hint) from = same_still
  same_taken ids parts part term machine (says.Remote t v list) from = same_proposing ids parts part (entry.Remote from t v list)
  same_taken ids parts part term machine (says.Done t v) from = where_ready (t == term) _ _ (same_asking _ _ ((blinds.blind l.table m.table s.tables).remote v))
  same_taken ids parts part term machine (says.Stale t v above) from = same_still
  same_taken ids parts part term machine (says.Fence t v edges) from = same_proposing ids parts part (entry.Fence from t v edges)
  same_taken ids parts part term machine (says.Fenced t v written) from = where_ready (t == term) _ _ (same_asking _ _ ((blinds.blind l.table m.table s.tables).fenced v written))
  same_taken ids parts part term machine (says.Resume t after) from = where_ready (t == term) _ _ (same_resuming term (standing_behind machine after))

  -- what both make of the rules
  same_ruled : (answers : List Letter) (made other : Ruled) → SameSent made other → SameApplies (ruled l answers made) (ruled m answers other)
  same_ruled answers made other h = record { leading = with_tables made.table other.table h.tables; answers = refl; rules = h.letters }

  -- what both make of an entry
  same_made : (term : ℕ) (own : Bool) (x : PartEntry) (behind : Part × Applied) → SameApplies (on_entry term l own x behind) (on_entry term m own x behind)
  same_made term own x behind = same_ruled (answers_of own x behind.1) _ _
      (subst (λ r. SameSent (ruled_by l.ready term (forgetting l.table behind.0 (chain_in x)) behind.0 behind.1) (ruled_by r term (forgetting m.table behind.0 (chain_in x)) behind.0 behind.1)) s.ready
      (same_ruled_by term l.ready _ _ (same_forgetting l.table m.table s.tables behind.0 (chain_in x)) behind.0 behind.1))

  -- both make nothing of an item
  same_idle : SameApplies (record { leading = l; answers = []; rules = [] }) (record { leading = m; answers = []; rules = [] })
  same_idle = record { leading = s; answers = refl; rules = refl }

  -- both are ready, or neither changes
  same_started : (own : Bool) → SameApplies (started l own) (started m own)
  same_started true = record { leading = record { ready = refl; policy = s.policy; tables = s.tables }; answers = refl; rules = refl }
  same_started false = same_idle

  -- an item of the log
  same_item : (parts term : ℕ) (machine : Part) (index : ℕ) (own : Bool) (x : Proposal) → SameApplies (on_item_by parts term machine l index own x) (on_item_by parts term machine m index own x)
  same_item parts term machine index own Start = same_started own
  same_item parts term machine index own (Members config) = same_idle
  same_item parts term machine index own (Made x) = same_made term own x (applied parts index x machine)
  same_item parts term machine index own Blank = same_idle

  -- all that a leader does
  pub alike : LeadAlike l m
  alike = record {
    taken = same_taken;
    applied = λ parts term machine index d. same_item parts term machine index (d.0 == term) d.1;
    given_up = λ id. by_test l.ready m.ready s.ready SameTaken _ _ _ _ (same_asking _ _ ((blinds.blind l.table m.table s.tables).given_up id)) same_still;
    pulsed = by_test l.ready m.ready s.ready SameLetters _ _ _ _ refl refl;
  }
