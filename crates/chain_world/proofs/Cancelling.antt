-- Only leaders of policy Cancel fence and give up chains.
use Rattle.std.proofs.Common.{◌≡◌, ◌⊎◌, inl, inr, ℕ, List, [], ◌∷◌, ◌++◌, map, length, take, drop, Option, Some, None, Bool, true, refl, ap, sym, subst, ◌∙◌}
use Rattle.std.specs.Prelude.{nat_lt, if◌then◌else◌}
use Rattle.std.specs.FinMap.{get}
use Rattle.std.proofs.lemmas.Bool.{false≢true, cond_both}
use Rattle.std.proofs.lemmas.List.Elements.{filter_map-append}
use Rattle.part_keys.specs.declared.chain.Policy.{Policy}
use Rattle.part_keys.specs.declared.chain.PrimeRec.{PrimeRec}
use Rattle.part_keys.specs.declared.entry.PartEntry.{PartEntry}
use Rattle.part_keys.specs.declared.entry.PartEntry.TheVariants as entry
use Rattle.part_keys.specs.Routing.{is_payload}
use Rattle.chain_leader.specs.declared.body.ChainBody.{ChainBody}
use Rattle.chain_leader.specs.declared.body.ChainBody.TheVariants as says
use Rattle.chain_leader.specs.declared.letter.Letter.{Letter}
use Rattle.chain_leader.specs.declared.letter.Letter.TheVariants.{Tell, Cross, Back, Again}
use Rattle.chain_leader.specs.Calls.{is_write}
use Rattle.chain_leader.specs.Rules.{on_remote, on_fence}
use Rattle.chain_leader.specs.Leading.{Taken, still, proposing, asking, onward, resumes_all, resuming, standing_behind, taken}
use Rattle.part_keys.specs.declared.vid_kind.VidKind.{VidKind}
use Rattle.chain_world.specs.declared.packet.ChainEnd.{ChainEnd}
use Rattle.chain_world.specs.declared.packet.ChainEnd.TheVariants as ends
use Rattle.chain_world.specs.Places.{Among}
use Rattle.chain_world.specs.State.{Post, Leader, Chains, machine_behind, packet_of, addressed, posts_of}
use Rattle.chain_world.specs.World.{part_from, kept_sender, with_taken}
use Rattle.chain_world.specs.Invariant.Cancelling.{FencesBy, AreCancelling}
use Rattle.chain_world.proofs.Members.{among_either}
use Rattle.chain_world.proofs.Staying.{is_chains, AreQuiet}
use Rattle.chain_world.proofs.Moving.{same_leader, leader_set, set_split}
use Rattle.chain_world.proofs.Cautious.{is_fence_body, PostsBy, fences_asks, resumes_careful}

-- quiet packets are no Fences
pub quiet_by : (policy : Policy) (more : List Post) → AreQuiet more → PostsBy policy more
quiet_by policy more quiet post among fence = absurd (false≢true (sym (quiet post among) ∙ chains post.packet.body fence))
  where
    chains : (b : ChainBody) → is_fence_body b ≡ true → is_chains b ≡ true
    chains (says.Fence t v edges) e = refl
    chains (says.Remote t v list) e = refl
    chains (says.Request number x) e = e
    chains (says.Answer number answer) e = e
    chains (says.NotLeader about q hint) e = e
    chains (says.Done t v) e = e
    chains (says.Stale t v above) e = e
    chains (says.Fenced t v written) e = e
    chains (says.Resume t behind) e = e

-- a leader's letters leave in its name
pub letters_mine : (p t : ℕ) (sender : Option ChainEnd) (letters : List Letter) (post : Post) → Among post (posts_of p t sender letters) → post.packet.from ≡ ends.Leader p t
letters_mine p t sender [] post none = absurd none
letters_mine p t sender (Tell id a ∷ ls) post (inl same) = ap (λ (x : Post). x.packet.from) same
letters_mine p t sender (Tell id a ∷ ls) post (inr more) = letters_mine p t sender ls post more
letters_mine p t sender (Cross q route b ∷ ls) post (inl same) = ap (λ (x : Post). x.packet.from) same
letters_mine p t sender (Cross q route b ∷ ls) post (inr more) = letters_mine p t sender ls post more
letters_mine p t None (Back b ∷ ls) post among = letters_mine p t None ls post among
letters_mine p t (Some e) (Back b ∷ ls) post (inl same) = ap (λ (x : Post). x.packet.from) same
letters_mine p t (Some e) (Back b ∷ ls) post (inr more) = letters_mine p t (Some e) ls post more
letters_mine p t sender (Again v ∷ ls) post (inl same) = ap (λ (x : Post). x.packet.from) same
letters_mine p t sender (Again v ∷ ls) post (inr more) = letters_mine p t sender ls post more

module _ (s : Chains) (can : AreCancelling s) where
  -- packets leave that are no Fences
  pub told_cancelling : (z : Chains) (more : List Post) → z.leaders ≡ s.leaders → z.posts ≡ s.posts ++ more → ((post : Post) → Among post more → is_fence_body post.packet.body ≡ true → ⊥) → AreCancelling z
  told_cancelling z more leaders posts none = record {
    rows = λ p t l is. can.rows p t l (ap (λ (f : ℕ → ℕ → Option Leader). f p t) (sym leaders) ∙ is);
    fenced = λ p t v l is h. elim (among_either _ s.posts more (subst (λ (ps : List Post). Among (record { packet = packet_of (ends.Leader p t) h.0 (says.Fence t v h.1); moment = h.2.0 }) ps) posts h.2.1)) [
      | inl old ↦ can.fenced p t v l (ap (λ (f : ℕ → ℕ → Option Leader). f p t) (sym leaders) ∙ is) (h.0, h.1, (h.2.0, old))
      | inr new ↦ absurd (none _ new refl)
    ];
  }

  -- one leader moves
  pub moved_cancelling : (z : Chains) (p t : ℕ) (l behind : Leader) (more : List Post) → s.leaders p t ≡ Some l → z.leaders ≡ leader_set s.leaders p t behind → z.posts ≡ s.posts ++ more → behind.lead.policy ≡ l.lead.policy
      → FencesBy l.lead.policy behind.lead.table → ((post : Post) → Among post more → post.packet.from ≡ ends.Leader p t) → PostsBy l.lead.policy more → AreCancelling z
  moved_cancelling z p t l behind more is leaders posts policy table mine by = record {
    rows = λ q u x at v row has kind. elim (here q u x at) [
      | inl own ↦ ap (λ (y : Leader). y.lead.policy) own.2 ∙ policy ∙ table v row (ap (λ (y : Leader). get y.lead.table v) (sym own.2) ∙ has) kind
      | inr other ↦ can.rows q u x other.0 v row has kind
    ];
    fenced = λ q u v x at h. elim (among_either _ s.posts more (subst (λ (ps : List Post). Among (record { packet = packet_of (ends.Leader q u) h.0 (says.Fence u v h.1); moment = h.2.0 }) ps) posts h.2.1)) [
      | inl old ↦ elim (here q u x at) [
        | inl own ↦ ap (λ (y : Leader). y.lead.policy) own.2 ∙ policy ∙ can.fenced q u v l (ap (λ (n : ℕ). s.leaders n u) own.0 ∙ ap (s.leaders p) own.1 ∙ is) (h.0, h.1, (h.2.0, old))
        | inr other ↦ can.fenced q u v x other.0 (h.0, h.1, (h.2.0, old))
      ]
      | inr new ↦ (let e = same_leader q u p t (mine _ new) in elim (here q u x at) [
        | inl own ↦ ap (λ (y : Leader). y.lead.policy) own.2 ∙ policy ∙ by _ new refl
        | inr other ↦ absurd (other.1 e.0 e.1)
      ])
    ];
  }
    where
      here : (q u : ℕ) (x : Leader) → z.leaders q u ≡ Some x → ((q ≡ p) × (u ≡ t) × (x ≡ behind)) ⊎ ((s.leaders q u ≡ Some x) × ((q ≡ p) → (u ≡ t) → ⊥))
      here q u x at = set_split s.leaders p t behind q u x (ap (λ (f : ℕ → ℕ → Option Leader). f q u) (sym leaders) ∙ at)

  module _ (p t : ℕ) (l : Leader) (is : s.leaders p t ≡ Some l) where
    -- what a leader takes
    takes_careful : (tk : Taken) (sender : Option ChainEnd) → tk.leading.policy ≡ l.lead.policy → FencesBy l.lead.policy tk.leading.table → PostsBy l.lead.policy (posts_of p t None tk.letters) → AreCancelling (with_taken s p t l tk sender)
    takes_careful tk sender policy table posts = moved_cancelling (with_taken s p t l tk sender) p t l _ (posts_of p t None tk.letters) is refl refl policy table (letters_mine p t None tk.letters) posts

    pub no_letters : (tk : Taken) (sender : Option ChainEnd) → tk.leading.policy ≡ l.lead.policy → FencesBy l.lead.policy tk.leading.table → tk.letters ≡ [] → AreCancelling (with_taken s p t l tk sender)
    no_letters tk sender policy table none = takes_careful tk sender policy table (subst (λ (ls : List Letter). PostsBy l.lead.policy (posts_of p t None ls)) (sym none) (λ post among. absurd among))

    pub own_rows : FencesBy l.lead.policy l.lead.table
    own_rows = can.rows p t l is

    pub still_careful : (sender : Option ChainEnd) → AreCancelling (with_taken s p t l (still l.lead) sender)
    still_careful sender = no_letters (still l.lead) sender refl own_rows refl

    proposing_careful : (ids : VidKind) (parts : ℕ) (x : PartEntry) (sender : Option ChainEnd) → AreCancelling (with_taken s p t l (proposing ids parts p l.lead x) sender)
    proposing_careful ids parts x sender = cond_both (is_payload ids parts p x) _ _ (λ (tk : Taken). AreCancelling (with_taken s p t l tk sender))
        (λ _. no_letters (record { leading = l.lead; proposals = x ∷ []; letters = [] }) sender refl own_rows refl) (λ _. still_careful sender)

    onward_by : (chains : List (ℕ × PrimeRec)) → PostsBy l.lead.policy (posts_of p t None (onward chains))
    onward_by chains = cond_both (nat_lt 64 (length chains)) _ _ (λ (ls : List Letter). PostsBy l.lead.policy (posts_of p t None ls)) (λ _. all_again (take 1 (drop 63 chains))) (λ _ post none. absurd none)
      where
        all_again : (cs : List (ℕ × PrimeRec)) → PostsBy l.lead.policy (posts_of p t None (map (λ (c : ℕ × PrimeRec). Again (Some c.0)) cs))
        all_again [] post none = absurd none
        all_again (c ∷ cs) post (inl same) = λ fence. absurd (false≢true (ap (λ (y : Post). is_fence_body y.packet.body) (sym same) ∙ fence))
        all_again (c ∷ cs) post (inr more) = λ fence. all_again cs post more fence

    both_by : (a b : List Letter) → PostsBy l.lead.policy (posts_of p t None a) → PostsBy l.lead.policy (posts_of p t None b) → PostsBy l.lead.policy (posts_of p t None (a ++ b))
    both_by a b f g = subst (PostsBy l.lead.policy) (sym (filter_map-append (addressed p t None) a b))
        (λ post among fence. elim (among_either post (posts_of p t None a) (posts_of p t None b) among) [ inl x ↦ f post x fence | inr x ↦ g post x fence ])

    resuming_careful : (chains : List (ℕ × PrimeRec)) → AreCancelling (with_taken s p t l (resuming t l.lead chains) None)
    resuming_careful chains = let r = resumes_careful l.lead.policy p t (take 64 chains) l.lead.table own_rows in
        takes_careful (resuming t l.lead chains) None refl r.0 (both_by (resumes_all t l.lead.policy (take 64 chains) l.lead.table).letters (onward chains) r.1 (onward_by chains))

    if_ready : (test : Bool) (tk : Taken) → AreCancelling (with_taken s p t l tk None) → AreCancelling (with_taken s p t l (if test then tk else still l.lead) None)
    if_ready test tk it = cond_both test tk (still l.lead) (λ (x : Taken). AreCancelling (with_taken s p t l x None)) (λ _. it) (λ _. still_careful None)

    pub take_careful : (ids : VidKind) (parts : ℕ) (from : ChainEnd) (b : ChainBody) → ((q : _) (o hint : _) → b ≡ says.NotLeader q o hint → ⊥) → AreCancelling (with_taken s p t l (taken ids parts p t (machine_behind parts s p l.applied) l.lead b (part_from from)) (kept_sender from b))
    take_careful ids parts from (says.Request number x) none = cond_both (is_write x) (proposing ids parts p l.lead x) (still l.lead) (λ (tk : Taken). AreCancelling (with_taken s p t l tk None)) (λ _. proposing_careful ids parts x None) (λ _. still_careful None)
    take_careful ids parts from (says.Answer number answer) none = still_careful None
    take_careful ids parts from (says.NotLeader about q hint) none = absurd (none about q hint refl)
    take_careful ids parts from (says.Remote u v list) none = proposing_careful ids parts (entry.Remote (part_from from) u v list) (Some from)
    take_careful ids parts from (says.Done u v) none = if_ready _ _ (no_letters (asking l.lead (on_remote l.lead.table v)) None refl (fences_asks l.lead.policy l.lead.table v _ own_rows) refl)
    take_careful ids parts from (says.Stale u v above) none = still_careful None
    take_careful ids parts from (says.Fence u v edges) none = proposing_careful ids parts (entry.Fence (part_from from) u v edges) (Some from)
    take_careful ids parts from (says.Fenced u v written) none = if_ready _ _ (no_letters (asking l.lead (on_fence l.lead.table v written)) None refl (fences_asks l.lead.policy l.lead.table v _ own_rows) refl)
    take_careful ids parts from (says.Resume u behind) none = if_ready _ _ (resuming_careful (standing_behind (machine_behind parts s p l.applied) behind))
