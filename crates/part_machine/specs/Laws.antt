-- What a log may hold is what a machine takes, and what may be read is what it answers.
use Rattle.std.specs.Prelude.{◌≡◌, true}
use Rattle.graph_bytes.specs.declared.id_form.IdForm.TheVariants.{Tagged}
use Rattle.graph_model.specs.declared.call_id.CallId.{CallId}
use Rattle.graph_model.specs.declared.query.Query.{Query}
use Rattle.graph_model.specs.Edges.{are_edges, edges_in}
use Rattle.part_keys.specs.Fits.{HasSpelling}
use Rattle.part_keys.specs.Routing.{belongs, is_payload}
use Rattle.part_keys.specs.declared.entry.PartEntry.{PartEntry}
use Rattle.part_keys.specs.declared.entry.PartEntry.TheVariants.{Prime, Remote, Fence, Read}
use Rattle.part_views.specs.Views.{IsAsked}
use Rattle.part_store.specs.declared.setting.Setting.{Setting}
use Rattle.part_machine.specs.Taken.{IsTaken}

-- the entry's edges are a list of edges, as its type has it
abbrev pub HasEdges : PartEntry → Type 0
HasEdges (Prime id list absent) = are_edges (edges_in list) ≡ true
HasEdges (Remote source term v list) = are_edges (edges_in list) ≡ true
HasEdges (Fence source term v edges) = are_edges edges ≡ true
HasEdges other = Unit {0}

-- an entry that may stand in the part's log and has a spelling is taken
abbrev pub PayloadsAreTaken : Type 0
PayloadsAreTaken = (s : Setting) (entry : PartEntry) → is_payload s.ids s.parts s.part entry ≡ true → HasSpelling Tagged entry → HasEdges entry → IsTaken s entry

-- a read that belongs to the part and has a spelling is answered
abbrev pub ReadsAreAsked : Type 0
ReadsAreAsked = (s : Setting) (id : CallId) (query : Query) → belongs s.ids s.parts s.part (Read id query) ≡ true → HasSpelling Tagged (Read id query) → IsAsked s query
