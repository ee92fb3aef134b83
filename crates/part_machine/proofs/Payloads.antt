-- An entry that may stand in a part's log is one that its machine takes.
use Rattle.std.proofs.Common.{◌≡◌, List, [], ◌∷◌, length, true, pos}
use Rattle.std.specs.Prelude.{nat_lt, not, ◌==◌, ◌&&◌}
use Rattle.std.specs.List.{list_all}
use Rattle.std.proofs.lemmas.Bool.{and_parts, eqb-true, leb-true}
use Rattle.graph_bytes.specs.Fits.{HasSpellingVid, HasSpellingEnds, HasSpellingHalves, HasSpellingEdges, HasSpellingQuery}
use Rattle.graph_bytes.specs.declared.id_form.IdForm.TheVariants.{Tagged}
use Rattle.graph_bytes.proofs.EdgeFormats.{above_true}
use Rattle.graph_model.specs.Edges.{edges_in, is_positive}
use Rattle.graph_model.proofs.EdgeLemmas.{edges_held}
use Rattle.graph_model.specs.declared.edge_id.EdgeId.{EdgeId}
use Rattle.graph_model.specs.declared.half.Half.{Half}
use Rattle.graph_model.specs.declared.query.Query.{Query}
use Rattle.graph_model.specs.declared.query.Query.TheVariants as asked
use Rattle.graph_model.specs.declared.op.Op.{Op}
use Rattle.graph_model.specs.declared.op.Op.TheVariants as ops
use Rattle.graph_model.specs.declared.vid.Vid.{Vid}
use Rattle.graph_model.specs.declared.vid.Vid.TheVariants.{Num, Name}
use Rattle.part_keys.specs.Fits.{HasSpelling, HasSpellingChange}
use Rattle.part_keys.specs.Kinds.{is_id_of, is_edge_of, is_change_of, is_query_of, is_entry_of}
use Rattle.part_keys.specs.Keys.{IsOfKind}
use Rattle.part_keys.specs.Routing.{part_of, all_from, all_into, remote_of, part_of_query, change_belongs, routes_to, is_read}
use Rattle.part_keys.specs.declared.entry.PartEntry.{PartEntry}
use Rattle.part_keys.specs.declared.entry.PartEntry.TheVariants.{Prime, Local, Double, Close, Abort, Remote, Fence, Vertex, Read}
use Rattle.part_keys.specs.declared.vid_kind.VidKind.{VidKind}
use Rattle.part_keys.specs.declared.vid_kind.VidKind.TheVariants as kinds
use Rattle.part_views.specs.Views.{IsAsked}
use Rattle.part_store.specs.Settings.{IsEdge, AreFrom, AreInto, AreEnds}
use Rattle.part_store.specs.declared.setting.Setting.{Setting}
use Rattle.part_machine.specs.Laws.{HasEdges, PayloadsAreTaken, ReadsAreAsked}
use Rattle.part_machine.specs.Taken.{IsChange, IsTaken}

of_kind : (ids : VidKind) (v : Vid) → is_id_of ids v ≡ true → HasSpellingVid Tagged v → IsOfKind ids v
of_kind kinds.Num (Num n) is spelled = tt
of_kind kinds.Num (Name name) is spelled = absurd cc
of_kind (kinds.Name most) (Num n) is spelled = absurd cc
of_kind (kinds.Name most) (Name name) is spelled = (spelled, leb-true _ _ is)

module _ (s : Setting) where
  edge_is : (e : EdgeId) → is_edge_of s.ids e ≡ true → HasSpellingEnds Tagged e → is_positive e ≡ true → IsEdge s e
  edge_is e is spelled positive =
      let both = and_parts (is_id_of s.ids e.src) (is_id_of s.ids e.dst) is in
      record { src = of_kind s.ids e.src both.0 spelled.0; dst = of_kind s.ids e.dst both.1 spelled.1; positive = above_true (pos 0) e.etype positive }

  from_is : (list : List (EdgeId × Half)) → list_all (λ (x : EdgeId × Half). is_edge_of s.ids x.0) list ≡ true → all_from s.parts s.part list ≡ true → HasSpellingHalves Tagged list → list_all is_positive (edges_in list) ≡ true → AreFrom s list
  from_is [] is here spelled positive = tt
  from_is (x ∷ list) is here spelled positive =
      let i = and_parts (is_edge_of s.ids x.0) (list_all (λ (y : EdgeId × Half). is_edge_of s.ids y.0) list) is in
      let h = and_parts (part_of s.parts x.0.src == s.part) (all_from s.parts s.part list) here in
      let p = and_parts (is_positive x.0) (list_all is_positive (edges_in list)) positive in
      ((record { edge = edge_is x.0 i.0 spelled.0.0 p.0; here = eqb-true _ _ h.0 }, spelled.0.1), from_is list i.1 h.1 spelled.1 p.1)

  into_is : (list : List (EdgeId × Half)) → list_all (λ (x : EdgeId × Half). is_edge_of s.ids x.0) list ≡ true → all_into s.parts s.part list ≡ true → HasSpellingHalves Tagged list → list_all is_positive (edges_in list) ≡ true → AreInto s list
  into_is [] is here spelled positive = tt
  into_is (x ∷ list) is here spelled positive =
      let i = and_parts (is_edge_of s.ids x.0) (list_all (λ (y : EdgeId × Half). is_edge_of s.ids y.0) list) is in
      let h = and_parts (part_of s.parts x.0.dst == s.part) (all_into s.parts s.part list) here in
      let p = and_parts (is_positive x.0) (list_all is_positive (edges_in list)) positive in
      ((record { edge = edge_is x.0 i.0 spelled.0.0 p.0; here = eqb-true _ _ h.0 }, spelled.0.1), into_is list i.1 h.1 spelled.1 p.1)

  ends_is : (edges : List EdgeId) → list_all (is_edge_of s.ids) edges ≡ true → list_all (λ (e : EdgeId). part_of s.parts e.dst == s.part) edges ≡ true → HasSpellingEdges Tagged edges → list_all is_positive edges ≡ true → AreEnds s edges
  ends_is [] is here spelled positive = tt
  ends_is (e ∷ edges) is here spelled positive =
      let i = and_parts (is_edge_of s.ids e) (list_all (is_edge_of s.ids) edges) is in
      let h = and_parts (part_of s.parts e.dst == s.part) (list_all (λ (f : EdgeId). part_of s.parts f.dst == s.part) edges) here in
      let p = and_parts (is_positive e) (list_all is_positive edges) positive in
      (record { edge = edge_is e i.0 spelled.0 p.0; here = eqb-true _ _ h.0 }, ends_is edges i.1 h.1 spelled.1 p.1)

  change_is : (op : Op) → is_change_of s.ids op ≡ true → change_belongs s.parts s.part op ≡ true → HasSpellingChange Tagged op → IsChange s op
  change_is (ops.PutVertex v tag vals absent) is here spelled = (record { of = of_kind s.ids v is spelled.0; here = eqb-true _ _ here }, spelled.1)
  change_is (ops.DelVertex v) is here spelled = record { of = of_kind s.ids v is spelled; here = eqb-true _ _ here }
  change_is (ops.PutEdges rows absent) is here spelled = tt
  change_is (ops.DelEdges edges) is here spelled = tt
  change_is (ops.Read query) is here spelled = tt

  taken_is : (entry : PartEntry) → is_entry_of s.ids entry ≡ true → routes_to s.parts s.part entry ≡ true → HasSpelling Tagged entry → HasEdges entry → IsTaken s entry
  taken_is (Prime id list absent) is here spelled edges =
      let i = and_parts (nat_lt 0 (length list)) (list_all (λ (x : EdgeId × Half). is_edge_of s.ids x.0) list) is in
      let h = and_parts (all_from s.parts s.part list) (all_into s.parts (remote_of s.parts list) list) here in
      (spelled.0, from_is list i.1 h.0 spelled.1 (edges_held (edges_in list) edges).positive)
  taken_is (Remote source term v list) is here spelled edges =
      let i = and_parts (nat_lt 0 (length list)) (list_all (λ (x : EdgeId × Half). is_edge_of s.ids x.0) list) is in
      (spelled.0, into_is list i.1 here spelled.1 (edges_held (edges_in list) edges).positive)
  taken_is (Fence source term v list) is here spelled edges =
      let i = and_parts (nat_lt 0 (length list)) (list_all (is_edge_of s.ids) list) is in
      (spelled.0, ends_is list i.1 here spelled.1 (edges_held list edges).positive)
  taken_is (Vertex id op) is here spelled edges = (spelled.0, change_is op is here spelled.1)
  taken_is (Local v) is here spelled edges = tt
  taken_is (Double v) is here spelled edges = tt
  taken_is (Close v) is here spelled edges = tt
  taken_is (Abort v) is here spelled edges = tt
  taken_is (Read id query) is here spelled edges = tt

  asked_is : (query : Query) → is_query_of s.ids query ≡ true → part_of_query s.parts query ≡ s.part → HasSpellingQuery Tagged query → IsAsked s query
  asked_is (asked.Tag v tag) is here spelled = record { of = of_kind s.ids v is spelled; here = here }
  asked_is (asked.Edge e) is here spelled =
      let both = and_parts (is_id_of s.ids e.src) (is_id_of s.ids e.dst) is in
      record { edge = record { src = of_kind s.ids e.src both.0 spelled.0; dst = of_kind s.ids e.dst both.1 spelled.2; positive = spelled.1 }; here = here }
  asked_is (asked.Out v types) is here spelled = record { of = of_kind s.ids v is spelled.0; here = here }
  asked_is (asked.In v types) is here spelled = record { of = of_kind s.ids v is spelled.0; here = here }
  asked_is (asked.Both v types) is here spelled = record { of = of_kind s.ids v is spelled.0; here = here }

pub reads_are_asked : ReadsAreAsked
reads_are_asked s id query is spelled =
    let b = and_parts (is_query_of s.ids query) (part_of_query s.parts query == s.part) is in
    asked_is s query b.0 (eqb-true _ _ b.1) spelled.1

pub payloads_are_taken : PayloadsAreTaken
payloads_are_taken s entry is spelled edges =
    let i = and_parts (is_entry_of s.ids entry && routes_to s.parts s.part entry) (not (is_read entry)) is in
    let b = and_parts (is_entry_of s.ids entry) (routes_to s.parts s.part entry) i.0 in
    taken_is s entry b.0 b.1 spelled edges
