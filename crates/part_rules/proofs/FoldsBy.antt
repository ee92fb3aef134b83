-- What an entry leaves of each map of a part: as it was, or changed in one of a few ways.
use Rattle.std.proofs.Common.{◌≡◌, ℕ, List, None, Some, Bool, true, false, refl, ap, sym, subst}
use Rattle.std.specs.Ordering.{nat_cmp}
use Rattle.std.specs.FinMap.{FinMap, get, insert, remove}
use Rattle.std.specs.Map.{keys_of}
use Rattle.graph_model.specs.Keys.{edge_cmp, in_cmp}
use Rattle.graph_model.specs.declared.val.Val.{Val}
use Rattle.graph_model.specs.declared.half.Half.{Half}
use Rattle.graph_model.specs.declared.edge_id.EdgeId.{EdgeId}
use Rattle.graph_model.specs.declared.call_id.CallId.{CallId}
use Rattle.part_keys.specs.declared.chain.PrimeRec.{PrimeRec}
use Rattle.part_keys.specs.declared.in_half.InHalf.{InHalf}
use Rattle.part_keys.specs.declared.entry.PartEntry.{PartEntry}
use Rattle.part_keys.specs.declared.entry.PartEntry.TheVariants.{Prime, Local, Double, Close, Abort, Remote, Fence, Vertex, Read}
use Rattle.part_rules.specs.declared.applied.Applied.TheVariants.{Begun}
use Rattle.part_rules.specs.Part.{Part, chain_on_any, is_stale}
use Rattle.part_rules.specs.Machine.{applied, primed, out_written, in_written, begun_at, leaves_all}
use Rattle.part_rules.proofs.FoldsCases.{prime_cases, local_cases, double_cases, abort_cases, close_cases, remote_cases, fence_cases}
use Rattle.part_rules.proofs.FoldsRise.{vertex_keeps}

module _ (parts index : ℕ) (p : Part) where
  -- in-halves are written by a Remote that isn't stale
  pub inn_by : (Q : FinMap in_cmp InHalf → Type 0) (entry : PartEntry) → Q p.inn
      → ((from term v : ℕ) (list : List (EdgeId × Half)) → entry ≡ Remote from term v list → is_stale p from term ≡ false → Q (in_written p v list))
      → Q (applied parts index entry p).0.inn
  inn_by Q (Prime id list absent) stay wrote = prime_cases p (λ s. Q s.0.inn) parts index id list absent stay (λ o. stay) (λ c on. stay) (λ none all. stay) (λ none some. stay)
  inn_by Q (Local v) stay wrote = local_cases p (λ s. Q s.0.inn) v stay (λ c there single. stay)
  inn_by Q (Double v) stay wrote = double_cases p (λ s. Q s.0.inn) v stay (λ c there single. stay)
  inn_by Q (Close v) stay wrote = close_cases p (λ s. Q s.0.inn) v stay (λ c there double. stay)
  inn_by Q (Abort v) stay wrote = abort_cases p (λ s. Q s.0.inn) v stay (λ c there single. stay)
  inn_by Q (Remote from term v list) stay wrote = remote_cases p (λ s. Q s.0.inn) from term v list (λ stale. stay) (λ fresh. wrote from term v list refl fresh)
  inn_by Q (Fence from term v edges) stay wrote = fence_cases p (λ s. Q s.0.inn) from term v edges (λ stale. stay) (λ fresh. stay)
  inn_by Q (Vertex id op) stay wrote = subst Q (sym (vertex_keeps p id op).0) stay
  inn_by Q (Read id query) stay wrote = stay

  -- out-halves are written as a chain that isn't double settles or becomes double
  pub out_by : (Q : FinMap edge_cmp (List Val) → Type 0) (entry : PartEntry) → Q p.out
      → ((v : ℕ) (chain : PrimeRec) → get p.chains v ≡ Some chain → chain.double ≡ false → Q (out_written p.out chain.list))
      → Q (applied parts index entry p).0.out
  out_by Q (Prime id list absent) stay wrote = prime_cases p (λ s. Q s.0.out) parts index id list absent stay (λ o. stay) (λ c on. stay) (λ none all. stay) (λ none some. stay)
  out_by Q (Local v) stay wrote = local_cases p (λ s. Q s.0.out) v stay (λ c there single. wrote v c there single)
  out_by Q (Double v) stay wrote = double_cases p (λ s. Q s.0.out) v stay (λ c there single. wrote v c there single)
  out_by Q (Close v) stay wrote = close_cases p (λ s. Q s.0.out) v stay (λ c there double. stay)
  out_by Q (Abort v) stay wrote = abort_cases p (λ s. Q s.0.out) v stay (λ c there single. stay)
  out_by Q (Remote from term v list) stay wrote = remote_cases p (λ s. Q s.0.out) from term v list (λ stale. stay) (λ fresh. stay)
  out_by Q (Fence from term v edges) stay wrote = fence_cases p (λ s. Q s.0.out) from term v edges (λ stale. stay) (λ fresh. stay)
  out_by Q (Vertex id op) stay wrote = subst Q (sym (vertex_keeps p id op).1) stay
  out_by Q (Read id query) stay wrote = stay

  -- a chain begins at the index of a Prime whose edges have none; one becomes double; one ends
  pub chains_by : (Q : FinMap nat_cmp PrimeRec → Type 0) (entry : PartEntry) → Q p.chains
      → ((id : CallId) (list : List (EdgeId × Half)) (absent : Bool) → entry ≡ Prime id list absent → chain_on_any p (keys_of list) ≡ None → leaves_all p list absent ≡ false → (applied parts index entry p).1 ≡ Begun index → Q (insert p.chains index (begun_at parts p index id list absent)))
      → ((v : ℕ) (chain : PrimeRec) → get p.chains v ≡ Some chain → Q (insert p.chains v (record chain { double = true })))
      → ((v : ℕ) (chain : PrimeRec) → get p.chains v ≡ Some chain → Q (remove p.chains v))
      → Q (applied parts index entry p).0.chains
  chains_by Q (Prime id list absent) stay begins doubles ends =
      prime_cases p (λ s. primed parts p index id list absent ≡ s → Q s.0.chains) parts index id list absent (λ e. stay) (λ o e. stay) (λ c on e. stay) (λ none all e. stay)
      (λ none some e. begins id list absent refl none some (ap (λ s. s.1) e)) refl
  chains_by Q (Local v) stay begins doubles ends = local_cases p (λ s. Q s.0.chains) v stay (λ c there single. ends v c there)
  chains_by Q (Double v) stay begins doubles ends = double_cases p (λ s. Q s.0.chains) v stay (λ c there single. doubles v c there)
  chains_by Q (Close v) stay begins doubles ends = close_cases p (λ s. Q s.0.chains) v stay (λ c there double. ends v c there)
  chains_by Q (Abort v) stay begins doubles ends = abort_cases p (λ s. Q s.0.chains) v stay (λ c there single. ends v c there)
  chains_by Q (Remote from term v list) stay begins doubles ends = remote_cases p (λ s. Q s.0.chains) from term v list (λ stale. stay) (λ fresh. stay)
  chains_by Q (Fence from term v edges) stay begins doubles ends = fence_cases p (λ s. Q s.0.chains) from term v edges (λ stale. stay) (λ fresh. stay)
  chains_by Q (Vertex id op) stay begins doubles ends = subst Q (sym (vertex_keeps p id op).2) stay
  chains_by Q (Read id query) stay begins doubles ends = stay
