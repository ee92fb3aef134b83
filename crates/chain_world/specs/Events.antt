-- The words of the table of events (`specs/World`), event by event: what is asked of the world, and what becomes of it.
use Rattle.std.specs.Prelude.{ℕ, suc, ◌+◌, ◌==◌, nat_lt, nat_le, List, [], ◌∷◌, ◌++◌, length, take, Option, None, Some, Bool, false, ◌&&◌, if◌then◌else◌, slice_get, is_none, is_some, map}
use Rattle.std.specs.List.{list_all}
use Rattle.std.specs.Option.{option_or}
use Rattle.std.specs.Ordering.{eq_by_cmp}
use Rattle.graph_model.specs.Keys.{call_cmp}
use Rattle.graph_model.specs.declared.answer.Answer.{Answer}
use Rattle.graph_model.specs.declared.call_id.CallId.{CallId}
use Rattle.graph_model.specs.declared.op.Op.{Op}
use Rattle.graph_model.specs.declared.query.Query.{Query}
use Rattle.graph_model.specs.Ops.{is_op}
use Rattle.graph_model.specs.Same.{is_same_answer}
use Rattle.part_keys.specs.declared.chain.Policy.{Policy}
use Rattle.part_keys.specs.declared.entry.PartEntry.{PartEntry}
use Rattle.part_keys.specs.declared.entry.PartEntry.TheVariants as entry
use Rattle.part_keys.specs.declared.proposal.Proposal.{Proposal}
use Rattle.part_keys.specs.declared.proposal.Proposal.TheVariants.{Start, Made}
use Rattle.part_keys.specs.declared.vid_kind.VidKind.{VidKind}
use Rattle.part_keys.specs.Routing.{belongs}
use Rattle.chain_leader.specs.declared.body.ChainBody.{ChainBody}
use Rattle.chain_leader.specs.declared.body.ChainBody.TheVariants as says
use Rattle.chain_leader.specs.Leading.{Taken, Applies, idle, taken, on_item, read}
use Rattle.chain_leader.specs.Calls.{entry_of, part_of_op}
use Rattle.raft_log.specs.Decided.{count_term}
use Rattle.chain_world.specs.declared.packet.ChainEnd.{ChainEnd}
use Rattle.chain_world.specs.declared.packet.ChainEnd.TheVariants as ends
use Rattle.chain_world.specs.declared.packet.ChainPacket.{ChainPacket}
use Rattle.chain_world.specs.Ledger.{invokes, decides, replies}
use Rattle.chain_world.specs.State.{Post, Leader, Client, Chains, decided_of, machine_behind, with_leader, with_client, packet_of, post_of, with_posts, posts_of}

-- the parts are 1 to `parts`, the clients 1 to 64
abbrev pub most_clients : ℕ
most_clients = 64

abbrev pub is_part : ℕ → ℕ → Bool
is_part parts p = nat_lt 0 p && nat_le p parts

abbrev pub is_client : ℕ → Bool
is_client c = nat_lt 0 c && nat_le c most_clients

-- whether there is something, and this holds of it
abbrev pub holds_of : {A : Type 0} → (A → Bool) → Option A → Bool
holds_of test None = false
holds_of test (Some x) = test x

-- what is made of something, where it is there
abbrev pub where_some : {A : Type 0} → Chains → Option A → (A → Chains) → Chains
where_some s None make = s
where_some s (Some x) make = make x

-- that leader is there
abbrev pub is_led : Chains → ℕ → ℕ → Bool
is_led s p t = is_some (s.leaders p t)

-- Invoke. The op has 1 to 64 edges, none twice, where it has edges; these have one source part and one destination part; and
-- each id is of the space's kind.
abbrev pub is_whole : VidKind → ℕ → CallId → Op → Bool
is_whole ids parts id op = is_op op && belongs ids parts (part_of_op parts op) (entry_of id op)

-- the client has no open call, and the number is its last plus 1
abbrev pub may_invoke : VidKind → ℕ → Client → CallId → Op → Bool
may_invoke ids parts client id op = is_none client.asks && (id.number == client.last + 1) && is_whole ids parts id op

-- the Request goes to the part of the op
abbrev pub request_of : ℕ → CallId → Op → Post
request_of parts id op = post_of (packet_of (ends.Client id.client) (ends.Part (part_of_op parts op)) (says.Request id.number (entry_of id op)))

abbrev pub with_invoke : ℕ → Chains → CallId → Op → Chains
with_invoke parts s id op =
    with_posts (with_client (record s { ledger = invokes s.ledger id op }) id.client (record { last = id.number; asks = Some (id, op) })) (request_of parts id op ∷ [])

-- Members. Nothing was proposed at term 0; a leader proposes one item more.
abbrev pub is_unfounded : Chains → ℕ → Bool
is_unfounded s p = length (s.founded p) == 0

abbrev pub with_made : Leader → List Proposal → Leader
with_made l made = record l { made = l.made ++ made }

-- Lead. The term is above 0 and new in the part; what the leader has applied was decided, with lesser terms.
abbrev pub are_below : ℕ → List (ℕ × Proposal) → Bool
are_below t entries = list_all (λ (e : ℕ × Proposal). nat_lt e.0 t) entries

abbrev pub may_lead : Chains → ℕ → ℕ → ℕ → Bool
may_lead s p t a = nat_lt 0 t && is_none (s.leaders p t) && nat_le a (length (decided_of s p)) && are_below t (take a (decided_of s p))

-- it isn't ready, and its first proposal is a no-op
abbrev pub new_leader : Policy → ℕ → Leader
new_leader policy a = record { lead = record idle { policy = policy }; applied = a; made = Start ∷ []; senders = λ n. None }

-- Take. The packet was sent to this part, or to this leader.
abbrev pub is_to : ℕ → ℕ → ChainEnd → Bool
is_to p t (ends.Part q) = q == p
is_to p t (ends.Leader q u) = (q == p) && (u == t)
is_to p t (ends.Client c) = false

-- the part that it came from
abbrev pub part_from : ChainEnd → ℕ
part_from (ends.Client c) = 0
part_from (ends.Part q) = q
part_from (ends.Leader q u) = q

-- the sender is kept of a Remote and a Fence alone
abbrev pub kept_sender : ChainEnd → ChainBody → Option ChainEnd
kept_sender from (says.Remote t v list) = Some from
kept_sender from (says.Fence t v edges) = Some from
kept_sender from other = None

-- a sender belongs to the proposal that comes next, where one does
abbrev pub sender_of : List PartEntry → Option ChainEnd → Option ChainEnd
sender_of [] sender = None
sender_of (x ∷ proposals) sender = sender

-- the leader behind what it took: it keeps what its rules keep, proposes, and keeps a sender; and its letters leave
abbrev pub behind_taking : Leader → Taken → Option ChainEnd → Leader
behind_taking l tk sender = record l {
  lead = tk.leading;
  made = l.made ++ map Made tk.proposals;
  senders = λ n. if n == length l.made then sender_of tk.proposals sender else l.senders n;
}

abbrev pub with_taken : Chains → ℕ → ℕ → Leader → Taken → Option ChainEnd → Chains
with_taken s p t l tk sender = with_posts (with_leader s p t (behind_taking l tk sender)) (posts_of p t None tk.letters)

abbrev pub taking : VidKind → ℕ → Chains → ℕ → ℕ → Leader → ChainPacket → Chains
taking ids parts s p t l packet =
    with_taken s p t l (taken ids parts p t (machine_behind parts s p l.applied) l.lead packet.body (part_from packet.from)) (kept_sender packet.from packet.body)

-- Decide. The term isn't below any decided one's, and n is the next undecided proposal of that term, counted from 0.
abbrev pub are_at_most : ℕ → List (ℕ × Proposal) → Bool
are_at_most t entries = list_all (λ (e : ℕ × Proposal). nat_le e.0 t) entries

abbrev pub may_decide : Chains → ℕ → ℕ → ℕ → Bool
may_decide s p t n = are_at_most t (decided_of s p) && (n == count_term (decided_of s p) t)

-- it gives its graph steps
abbrev pub with_decided : ℕ → Chains → ℕ → ℕ → Proposal → Chains
with_decided parts s p t x = record s { ledger = decides parts s.ledger p (t, x) }

-- Apply. The next entry that a leader has to apply, where it hasn't applied all that is decided
abbrev pub next_entry : Chains → ℕ → Leader → Option (ℕ × Proposal)
next_entry s p l = slice_get (decided_of s p) l.applied

-- the sender of a Remote or Fence that it proposed itself is answered
abbrev pub own_sender : Chains → ℕ → ℕ → Leader → ℕ → Option ChainEnd
own_sender s p t l u = if u == t then l.senders (count_term (take l.applied (decided_of s p)) t) else None

abbrev pub with_applied : Chains → ℕ → ℕ → Leader → Applies → Option ChainEnd → Chains
with_applied s p t l made sender = with_posts (with_leader s p t (record l { lead = made.leading; applied = suc l.applied })) (posts_of p t sender (made.answers ++ made.rules))

abbrev pub applying : ℕ → Chains → ℕ → ℕ → Leader → ℕ × Proposal → Chains
applying parts s p t l entry =
    with_applied s p t l (on_item parts t (machine_behind parts s p l.applied) l.lead (suc l.applied) entry) (own_sender s p t l entry.0)

-- See. The query of a read whose Request was sent to this part
abbrev pub query_in : CallId → PartEntry → Option Query
query_in id (entry.Read call query) = if eq_by_cmp call_cmp call id then Some query else None
query_in id other = None

abbrev pub asked_in : CallId → ChainBody → Option Query
asked_in id (says.Request number x) = query_in id x
asked_in id other = None

abbrev pub is_at : ℕ → ChainEnd → Bool
is_at p (ends.Part q) = q == p
is_at p other = false

abbrev pub asked_by : ℕ → CallId → Post → Option Query
asked_by p id post = if is_at p post.packet.to then asked_in id post.packet.body else None

abbrev pub first_asked : ℕ → CallId → List Post → Option Query
first_asked p id [] = None
first_asked p id (post ∷ posts) = option_or (asked_by p id post) (first_asked p id posts)

-- the leader is ready and has applied all that is decided
abbrev pub knows_all : Chains → ℕ → Leader → Bool
knows_all s p l = l.lead.ready && (l.applied == length (decided_of s p))

-- the answer is what the leader's machine shows, of this moment
abbrev pub shown_by : ℕ → Chains → ℕ → ℕ → Leader → CallId → Query → Post
shown_by parts s p t l id query = record {
  packet = packet_of (ends.Leader p t) (ends.Client id.client) (says.Answer id.number (read (machine_behind parts s p l.applied) query));
  moment = length s.ledger.steps;
}

-- Reply. The call is open
abbrev pub is_call : CallId → Option (CallId × Op) → Bool
is_call id None = false
is_call id (Some call) = eq_by_cmp call_cmp call.0 id

abbrev pub is_open_at : Chains → CallId → Bool
is_open_at s id = is_call id (s.clients id.client).asks

-- the packet is an Answer for it, with this answer
abbrev pub is_for : CallId → ChainEnd → ℕ → Bool
is_for id (ends.Client c) number = (c == id.client) && (number == id.number)
is_for id other number = false

abbrev pub answers : CallId → Answer → ChainEnd → ChainBody → Bool
answers id a to (says.Answer number answer) = is_for id to number && is_same_answer a answer
answers id a to other = false

abbrev pub brings : CallId → Answer → Post → Bool
brings id a post = answers id a post.packet.to post.packet.body

-- the moment of a packet, where there is one
abbrev pub moment_of : Option Post → ℕ
moment_of None = 0
moment_of (Some post) = post.moment

-- the call isn't open any more; a read is of the packet's moment
abbrev pub with_reply : Chains → CallId → Answer → ℕ → Chains
with_reply s id answer m =
    with_client (record s { ledger = replies s.ledger id answer m }) id.client (record { last = (s.clients id.client).last; asks = None })
