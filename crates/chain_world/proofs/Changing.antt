-- What an item changes of the chains, looked at from behind it.
use Rattle.std.proofs.Common.{◌≡◌, ◌⊎◌, inl, inr, ℕ, List, Option, Some, None, true, false, ◌&&◌, refl, ap, sym, subst, ◌∙◌, eqb-true}
use Rattle.std.specs.Prelude.{◌==◌}
use Rattle.std.proofs.lemmas.Bool.{false≢true, cond_both, and_parts}
use Rattle.std.proofs.lemmas.Option.{same_Some, none-some}
use Rattle.graph_model.specs.declared.edge_id.EdgeId.{EdgeId}
use Rattle.graph_model.specs.declared.half.Half.{Half}
use Rattle.part_keys.specs.declared.chain.PrimeRec.{PrimeRec}
use Rattle.part_keys.specs.declared.entry.PartEntry.{PartEntry}
use Rattle.part_keys.specs.declared.entry.PartEntry.TheVariants.{Prime, Local, Double, Close, Abort, Remote, Fence, Vertex, Read}
use Rattle.part_rules.specs.declared.applied.Applied.{Applied}
use Rattle.part_rules.specs.declared.applied.Applied.TheVariants as told
use Rattle.part_rules.specs.Part.{Part}
use Rattle.part_rules.specs.Machine.{applied}
use Rattle.part_rules.proofs.FoldsCases.{prime_cases, local_cases, double_cases, abort_cases, close_cases, remote_cases}
use Rattle.chain_world.specs.Course.{Fate, Primed, Doubled, Settled, Closed, Aborted, Course, Courses, with_course, with_fate, with_wrote, course_of, coursed, is_aborted}

-- the entry is a Remote of the chain that is done; the entry is its Abort
abbrev pub IsItsRemote : PartEntry → Applied → ℕ → ℕ → Type 0
IsItsRemote x answer q w = (t : ℕ) × (list : List (EdgeId × Half)) × (x ≡ Remote q t w list) × (answer ≡ told.Done)

abbrev pub IsItsAbort : PartEntry → ℕ → ℕ → ℕ → ℕ → ℕ → Type 0
IsItsAbort x p term q w u = (x ≡ Abort w) × (q ≡ p) × (term ≡ u)

-- a chain behind the item was there before, with what it wrote and its end, or the item gave it these; or it has just begun
pub record WasThere (k : Courses) (x : PartEntry) (answer : Applied) (p term q w : ℕ) (now : Course) : Type 0 where
  pub old : Course
  pub known : k q w ≡ Some old
  pub wrote : now.wrote ≡ true → (old.wrote ≡ true) ⊎ IsItsRemote x answer q w
  pub aborted : (u : ℕ) → now.fate ≡ Aborted u → (old.fate ≡ Aborted u) ⊎ IsItsAbort x p term q w u

pub record HasBegun (now : Course) : Type 0 where
  pub unwritten : now.wrote ≡ false
  pub primed : now.fate ≡ Primed

-- a chain that wasn't given up by this
pub fate_apart : (fate : Fate) (u : ℕ) → is_aborted fate ≡ false → fate ≡ Aborted u → ⊥
fate_apart fate u plain e = false≢true (sym plain ∙ ap is_aborted e)

module _ (k : Courses) (p term : ℕ) (m : Part) where
  abbrev CameFrom : PartEntry → Part × Applied → Type 0
  CameFrom x r = (q w : ℕ) (now : Course) → coursed k p term r.0 x r.1 q w ≡ Some now → WasThere k x r.1 p term q w now ⊎ HasBegun now

  unchanged : (x : PartEntry) (answer : Applied) (q w : ℕ) (now : Course) → k q w ≡ Some now → WasThere k x answer p term q w now ⊎ HasBegun now
  unchanged x answer q w now e = inl (record { old = now; known = e; wrote = λ h. inl h; aborted = λ u h. inl h })

  -- one chain changed
  at_place : (x : PartEntry) (answer : Applied) (a b : ℕ) (o : Option Course) → ((now : Course) → o ≡ Some now → WasThere k x answer p term a b now ⊎ HasBegun now)
      → (q w : ℕ) (now : Course) → with_course k a b o q w ≡ Some now → WasThere k x answer p term q w now ⊎ HasBegun now
  at_place x answer a b o here q w now = cond_both ((q == a) && (w == b)) o (k q w) (λ (c : Option Course). c ≡ Some now → WasThere k x answer p term q w now ⊎ HasBegun now)
      (λ same e. (let f = and_parts (q == a) (w == b) same in
      subst (λ (n : ℕ). WasThere k x answer p term n w now ⊎ HasBegun now) (sym (eqb-true q a f.0)) (subst (λ (n : ℕ). WasThere k x answer p term a n now ⊎ HasBegun now) (sym (eqb-true w b f.1)) (here now e))))
      (λ other e. unchanged x answer q w now e)

  fated : (x : PartEntry) (answer : Applied) (v : ℕ) (fate : Fate) (now : Course) → ((u : ℕ) → fate ≡ Aborted u → IsItsAbort x p term p v u) → with_fate fate (k p v) ≡ Some now → WasThere k x answer p term p v now ⊎ HasBegun now
  fated x answer v fate now its = by_old (k p v) refl
    where
      by_old : (o : Option Course) → k p v ≡ o → with_fate fate o ≡ Some now → WasThere k x answer p term p v now ⊎ HasBegun now
      by_old None e f = absurd (none-some now f)
      by_old (Some c) e f = (let same : record c { fate = fate } ≡ now = same_Some (record c { fate = fate }) now f in
          inl (record { old = c; known = e; wrote = λ h. inl (ap (λ (y : Course). y.wrote) same ∙ h); aborted = λ u h. inr (its u (ap (λ (y : Course). y.fate) same ∙ h)) }))

  wrote : (x : PartEntry) (a b t : ℕ) (list : List (EdgeId × Half)) → x ≡ Remote a t b list → (now : Course) → with_wrote (k a b) ≡ Some now → WasThere k x told.Done p term a b now ⊎ HasBegun now
  wrote x a b t list of now = by_old (k a b) refl
    where
      by_old : (o : Option Course) → k a b ≡ o → with_wrote o ≡ Some now → WasThere k x told.Done p term a b now ⊎ HasBegun now
      by_old None e f = absurd (none-some now f)
      by_old (Some c) e f = (let same : record c { wrote = true } ≡ now = same_Some (record c { wrote = true }) now f in
          inl (record { old = c; known = e; wrote = λ h. inr (t, list, of, refl); aborted = λ u h. inl (ap (λ (y : Course). y.fate) same ∙ h) }))

  begun : (x : PartEntry) (answer : Applied) (v : ℕ) (o : Option PrimeRec) (now : Course) → course_of o ≡ Some now → WasThere k x answer p term p v now ⊎ HasBegun now
  begun x answer v None now e = absurd (none-some now e)
  begun x answer v (Some rec) now e = (let same : record { id = rec.id; remote = rec.remote; list = rec.list; fate = Primed; wrote = false } ≡ now = same_Some _ now e in
      inr (record { unwritten = sym (ap (λ (y : Course). y.wrote) same); primed = sym (ap (λ (y : Course). y.fate) same) }))

  pub came_from : (parts index : ℕ) (x : PartEntry) → CameFrom x (applied parts index x m)
  came_from parts index (Prime id list absent) = prime_cases m (CameFrom (Prime id list absent)) parts index id list absent
      (unchanged (Prime id list absent) told.Old) (λ o. unchanged (Prime id list absent) (told.Again o)) (λ c e. unchanged (Prime id list absent) (told.Conflict c.id)) (λ e f. unchanged (Prime id list absent) told.Skipped)
      (λ e f. at_place (Prime id list absent) (told.Begun index) p index _ (begun (Prime id list absent) (told.Begun index) index _))
  came_from parts index (Local v) = local_cases m (CameFrom (Local v)) v (unchanged (Local v) told.Nothing)
      (λ c e d. at_place (Local v) (told.Settled c.id) p v _ (λ now. fated (Local v) (told.Settled c.id) v Settled now (λ u f. absurd (fate_apart Settled u refl f))))
  came_from parts index (Double v) = double_cases m (CameFrom (Double v)) v (unchanged (Double v) told.Nothing)
      (λ c e d. at_place (Double v) (told.Doubled c.id) p v _ (λ now. fated (Double v) (told.Doubled c.id) v Doubled now (λ u f. absurd (fate_apart Doubled u refl f))))
  came_from parts index (Close v) = close_cases m (CameFrom (Close v)) v (unchanged (Close v) told.Nothing)
      (λ c e d. at_place (Close v) (told.Closed c.id) p v _ (λ now. fated (Close v) (told.Closed c.id) v Closed now (λ u f. absurd (fate_apart Closed u refl f))))
  came_from parts index (Abort v) = abort_cases m (CameFrom (Abort v)) v (unchanged (Abort v) told.Nothing)
      (λ c e d. at_place (Abort v) (told.Aborted c.id) p v _ (λ now. fated (Abort v) (told.Aborted c.id) v (Aborted term) now (λ u f. (refl, refl, (let g : term ≡ u = cc in g)))))
  came_from parts index (Remote from t v list) = remote_cases m (CameFrom (Remote from t v list)) from t v list (λ _. unchanged (Remote from t v list) _)
      (λ _. at_place (Remote from t v list) told.Done from v _ (wrote (Remote from t v list) from v t list refl))
  came_from parts index (Fence from t v edges) = unchanged (Fence from t v edges) _
  came_from parts index (Vertex id op) = unchanged (Vertex id op) _
  came_from parts index (Read id query) = unchanged (Read id query) _
