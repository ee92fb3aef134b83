-- Nothing has happened, a call is made, and a call ends: what is kept is the world behind it.
use Rattle.std.proofs.Common.{◌≡◌, ℕ, [], ◌∷◌, ◌++◌, Option, None, Some, true, ap, sym, ◌∙◌}
use Rattle.std.specs.Prelude.{◌||◌, ◌==◌, if◌then◌else◌, slice_get}
use Rattle.std.specs.FinMap.{empty, insert}
use Rattle.std.proofs.lemmas.Bool.{and_from}
use Rattle.graph_model.specs.declared.answer.Answer.{Answer}
use Rattle.graph_model.specs.declared.call_id.CallId.{CallId}
use Rattle.graph_model.specs.declared.graph_step.GStep.TheVariants as step
use Rattle.graph_model.specs.declared.op.Op.{Op}
use Rattle.graph_model.specs.Same.{is_unknown}
use Rattle.part_keys.specs.declared.entry.PartEntry.{PartEntry}
use Rattle.part_keys.specs.declared.vid_kind.VidKind.{VidKind}
use Rattle.chain_leader.specs.Calls.{entry_of, part_of_op}
use Rattle.chain_leader.specs.declared.body.ChainBody.TheVariants as says
use Rattle.chain_world.specs.declared.event.ChainEvent.TheVariants as event
use Rattle.chain_world.specs.declared.packet.ChainEnd.TheVariants as ends
use Rattle.chain_world.specs.Events.{is_client, is_call, holds_of, brings, moment_of, with_invoke, with_reply}
use Rattle.chain_world.specs.Ledger.{reply_steps}
use Rattle.chain_world.specs.State.{Post, Chains as World, start, packet_of, post_of}
use Rattle.chain_world.specs.World.{after}
use Rattle.chain_run.specs.declared.chains.Chains.{Chains}
use Rattle.chain_run.specs.Shows.{list_in, posted, leader_in, client_in, world_of}
use Rattle.chain_run.proofs.Keeping.{list_none, leader_none, client_none, called}
use Rattle.chain_run.proofs.Happening.{same_world, happens}

pub started : (n : Chains) → n.steps ≡ [] → n.decided ≡ empty → n.founded ≡ empty → n.leaders ≡ empty → n.posts ≡ [] → n.callers ≡ empty → world_of n ≡ start
started n steps decided founded leaders posts callers =
    same_world n start steps (ap list_in decided ∙ list_none) (ap list_in founded ∙ list_none) (ap leader_in leaders ∙ leader_none) (ap posted posts) (ap client_in callers ∙ client_none)

pub invoked : (c n : Chains) (parts part : ℕ) (id : CallId) (op : Op) (entry : PartEntry) → part ≡ part_of_op parts op → entry ≡ entry_of id op
    → n.steps ≡ c.steps ++ step.Invoke id op ∷ [] → n.decided ≡ c.decided → n.founded ≡ c.founded → n.leaders ≡ c.leaders
    → n.callers ≡ insert c.callers id.client (record { last = id.number; asks = Some (id, op) })
    → posted n.posts ≡ posted c.posts ++ record { packet = packet_of (ends.Client id.client) (ends.Part part) (says.Request id.number entry); moment = 0 } ∷ []
    → world_of n ≡ with_invoke parts (world_of c) id op
invoked c n parts part id op entry goes says_so steps decided founded leaders callers posts =
    same_world n (with_invoke parts (world_of c) id op) steps (ap list_in decided) (ap list_in founded) (ap leader_in leaders)
    (posts ∙ (λ i. posted c.posts ++ post_of (packet_of (ends.Client id.client) (ends.Part (goes i)) (says.Request id.number (says_so i))) ∷ []))
    (ap client_in callers ∙ called c.callers id.client (record { last = id.number; asks = Some (id, op) }))

pub replied : (c n : Chains) (id : CallId) (a : Answer) (m : ℕ) (last : ℕ) → last ≡ (client_in c.callers id.client).last
    → n.steps ≡ c.steps ++ reply_steps id m a → n.decided ≡ c.decided → n.founded ≡ c.founded → n.leaders ≡ c.leaders → n.posts ≡ c.posts
    → n.callers ≡ insert c.callers id.client (record { last = last; asks = None })
    → world_of n ≡ with_reply (world_of c) id a m
replied c n id a m last was steps decided founded leaders posts callers =
    same_world n (with_reply (world_of c) id a m) steps (ap list_in decided) (ap list_in founded) (ap leader_in leaders) (ap posted posts)
    (ap client_in callers ∙ called c.callers id.client (record { last = last; asks = None }) ∙ (λ i d. if d == id.client then record { last = was i; asks = None } else client_in c.callers d))

module _ (ids : VidKind) (parts : ℕ) (c : Chains) (id : CallId) (a : Answer) (k : ℕ) (post : Option Post) (is : post ≡ slice_get (posted c.posts) k)
    (client : is_client id.client ≡ true) (asks : is_call id (client_in c.callers id.client).asks ≡ true) (may : (is_unknown a || holds_of (brings id a) post) ≡ true) where
  pub ended : (now : World) (m : ℕ) → m ≡ moment_of post → now ≡ with_reply (world_of c) id a m → now ≡ after ids parts (world_of c) (event.Reply id a k)
  ended now m of left =
      happens ids parts (world_of c) (event.Reply id a k) now (and_from _ _ client (and_from _ _ asks (ap (λ p. is_unknown a || holds_of (brings id a) p) (sym is) ∙ may)))
      (left ∙ ap (with_reply (world_of c) id a) (of ∙ ap moment_of is))
