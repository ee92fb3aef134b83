-- Entries that were read from a log of the part are entries that its machine takes.
use Rattle.std.proofs.Common.{◌≡◌, ℕ, List, [], ◌∷◌, true}
use Rattle.std.specs.List.{AllByRecursion}
use Rattle.std.proofs.lemmas.Bool.{and_parts}
use Rattle.graph_bytes.specs.declared.id_form.IdForm.TheVariants.{Tagged}
use Rattle.graph_bytes.specs.Fits.{FitsVid, FitsVal, FitsRow, FitsHalf, FitsEdge, FitsEdgeHalf, HasSpellingVid, HasSpellingVal, HasSpellingRow, HasSpellingHalf, HasSpellingEnds, HasSpellingEdge, HasSpellingEdgeHalf, FitsQuery, HasSpellingQuery}
use Rattle.graph_model.specs.declared.edge_id.EdgeId.{EdgeId}
use Rattle.graph_model.specs.declared.half.Half.{Half}
use Rattle.graph_model.specs.declared.half.Half.TheVariants.{Absent, Here}
use Rattle.graph_model.specs.declared.op.Op.{Op}
use Rattle.graph_model.specs.declared.op.Op.TheVariants as ops
use Rattle.graph_model.specs.declared.query.Query.{Query}
use Rattle.graph_model.specs.declared.query.Query.TheVariants as asked
use Rattle.graph_model.specs.declared.val.Val.{Val}
use Rattle.graph_model.specs.declared.val.Val.TheVariants.{Null, Int, Flag, Words}
use Rattle.graph_model.specs.declared.vid.Vid.{Vid}
use Rattle.graph_model.specs.declared.vid.Vid.TheVariants.{Num, Name}
use Rattle.part_keys.specs.Fits.{Fits, FitsChange, HasSpelling, HasSpellingChange}
use Rattle.part_keys.specs.declared.entry.PartEntry.{PartEntry}
use Rattle.part_keys.specs.declared.entry.PartEntry.TheVariants as entry
use Rattle.part_keys.specs.declared.proposal.Proposal.{Proposal}
use Rattle.part_keys.specs.declared.proposal.Proposal.TheVariants.{Start, Members, Made, Blank}
use Rattle.part_machine.specs.Laws.{HasEdges}
use Rattle.part_store.specs.declared.setting.Setting.{Setting}
use Rattle.raft_log.specs.declared.entry.Entry.{Entry}
use Rattle.replica_model.specs.Asks.{is_entry, are_entries}
use Rattle.replica_model.specs.Spelling.{value_of, values_of}
use Rattle.replica_state.specs.Written.{IsWritten}
use Rattle.replica_peer.specs.Peer.{home_in}
use Rattle.replica_peer.specs.Placed.{IsWrittenItem, AreWritten}

-- what fits has a spelling, list by list
each : {A : Type 0} (P Q : A → Type 0) → ((x : A) → P x → Q x) → (xs : List A) → AllByRecursion P xs → AllByRecursion Q xs
each P Q gives [] all = tt
each P Q gives (x ∷ xs) all = (gives x all.0, each P Q gives xs all.1)

vid : (v : Vid) → FitsVid Tagged v → HasSpellingVid Tagged v
vid (Num n) fits = tt
vid (Name n) fits = fits

val : (v : Val) → FitsVal v → HasSpellingVal v
val Null fits = tt
val (Int z) fits = tt
val (Flag b) fits = tt
val (Words t) fits = fits.1

row : (vals : List Val) → FitsRow vals → HasSpellingRow vals
row vals fits = (fits.0, each FitsVal HasSpellingVal val vals fits.1)

half : (h : Half) → FitsHalf h → HasSpellingHalf h
half Absent fits = tt
half (Here vals) fits = row vals fits

ends : (e : EdgeId) → FitsEdge Tagged e → HasSpellingEnds Tagged e
ends e fits = (vid e.src fits.src, vid e.dst fits.dst)

edge : (e : EdgeId) → FitsEdge Tagged e → HasSpellingEdge Tagged e
edge e fits = (vid e.src fits.src, fits.is, vid e.dst fits.dst)

edge_half : (x : EdgeId × Half) → FitsEdgeHalf Tagged x → HasSpellingEdgeHalf Tagged x
edge_half x fits = (ends x.0 fits.0, half x.1 fits.1)

change : (op : Op) → FitsChange Tagged op → HasSpellingChange Tagged op
change (ops.PutVertex v tag vals absent) fits = (vid v fits.0, row vals fits.2)
change (ops.DelVertex v) fits = vid v fits
change (ops.PutEdges rows absent) fits = absurd fits
change (ops.DelEdges list) fits = absurd fits
change (ops.Read q) fits = absurd fits

query : (q : Query) → FitsQuery Tagged q → HasSpellingQuery Tagged q
query (asked.Tag v tag) fits = vid v fits.0
query (asked.Edge e) fits = edge e fits
query (asked.Out v types) fits = (vid v fits.0, fits.1.are)
query (asked.In v types) fits = (vid v fits.0, fits.1.are)
query (asked.Both v types) fits = (vid v fits.0, fits.1.are)

pub spelled : (x : PartEntry) → Fits Tagged x → HasSpelling Tagged x
spelled (entry.Prime id list absent) fits = (fits.0.client, each (FitsEdgeHalf Tagged) (HasSpellingEdgeHalf Tagged) edge_half list fits.1.each)
spelled (entry.Local v) fits = tt
spelled (entry.Double v) fits = tt
spelled (entry.Close v) fits = tt
spelled (entry.Abort v) fits = tt
spelled (entry.Remote source term v list) fits = (fits.0.part, each (FitsEdgeHalf Tagged) (HasSpellingEdgeHalf Tagged) edge_half list fits.1.each)
spelled (entry.Fence source term v list) fits = (fits.0.part, each (FitsEdge Tagged) (HasSpellingEnds Tagged) ends list fits.1.each)
spelled (entry.Vertex id op) fits = (fits.0.client, change op fits.1)
spelled (entry.Read id q) fits = (fits.0.client, query q fits.1)

pub edges : (x : PartEntry) → Fits Tagged x → HasEdges x
edges (entry.Prime id list absent) fits = fits.1.are
edges (entry.Local v) fits = tt
edges (entry.Double v) fits = tt
edges (entry.Close v) fits = tt
edges (entry.Abort v) fits = tt
edges (entry.Remote source term v list) fits = fits.1.are
edges (entry.Fence source term v list) fits = fits.1.are
edges (entry.Vertex id op) fits = tt
edges (entry.Read id q) fits = tt

module _ (s : Setting) where
  written : (x : Proposal) → is_entry (home_in s) x ≡ true → IsWritten x → IsWrittenItem s x
  written Start is fits = tt
  written (Members config) is fits = tt
  written (Made x) is fits = record { payload = is; spelled = spelled x fits; edges = edges x fits }
  written Blank is fits = tt

  -- the entries among a log's items are taken, where each may stand in the part's log and was read
  pub are_written : (log : List Entry) → are_entries (home_in s) log ≡ true → AllByRecursion (λ (d : ℕ × Proposal). IsWritten d.1) (values_of (home_in s).spelling log) → AreWritten s (values_of (home_in s).spelling log)
  are_written [] are fit = tt
  are_written (x ∷ log) are fit =
      let both = and_parts (is_entry (home_in s) (value_of (home_in s).spelling x.item)) (are_entries (home_in s) log) are in
      (written (value_of (home_in s).spelling x.item) both.0 fit.0, are_written log both.1 fit.1)
