-- What the parts have of an edge is what the last chain on it gave: as chains begin, write, are shown, and end.
use Rattle.std.proofs.Common.{◌≡◌, inl, inr, ℕ, Option, None, Some, Bool, true, false, cond, refl, ap, sym, ◌∙◌}
use Rattle.graph_model.specs.Keys.{edge_cmp}
use Rattle.graph_model.specs.declared.edge_id.EdgeId.{EdgeId}
use Rattle.graph_model.specs.declared.half.Half.{Half}
use Rattle.maps.specs.Lists.{at_key}
use Rattle.chain_world.specs.Course.{Course, Courses, with_course}
use Rattle.chain_world.specs.Edges.{given, IsLast, IsUngiven}
use Rattle.chain_world.proofs.Pends.{place_split, course_here, course_apart}

module _ (gives : Course → Bool) (e : EdgeId) where
  -- what a chain that gives nothing gives; and one that gives, and has a half for the edge
  pub given_not : (c : Course) → gives c ≡ false → given gives e (Some c) ≡ None
  given_not c h = ap (λ b. cond b (at_key edge_cmp e c.list) None) h

  pub given_half : (c : Course) → gives c ≡ true → given gives e (Some c) ≡ at_key edge_cmp e c.list
  given_half c h = ap (λ b. cond b (at_key edge_cmp e c.list) None) h

  -- a chain that gives a half
  pub given_by : (o : Option Course) (half : Half) → given gives e o ≡ Some half → (c : Course) × (o ≡ Some c) × (at_key edge_cmp e c.list ≡ Some half)
  given_by None half h = cc
  given_by (Some c) half h = elim (gives c) as (λ b. cond b (at_key edge_cmp e c.list) None ≡ Some half → (d : Course) × (Some c ≡ Some d) × (at_key edge_cmp e d.list ≡ Some half)) [
    | true ↦ λ k. (c, refl, k)
    | false ↦ λ k. cc
  ] h

  -- one chain changes, and gives the edge what it gave
  pub given_set : (k : Courses) (p v : ℕ) (o : Option Course) → given gives e o ≡ given gives e (k p v) → (q w : ℕ) → given gives e (with_course k p v o q w) ≡ given gives e (k q w)
  given_set k p v o same q w = elim (place_split p v q w) [
    | inl here ↦
        ap (λ j. given gives e (with_course k p v o j w)) here.0 ∙ ap (λ j. given gives e (with_course k p v o p j)) here.1 ∙ ap (given gives e) (course_here k p v o) ∙ same
        ∙ ap (λ j. given gives e (k p j)) (sym here.1) ∙ ap (λ j. given gives e (k j w)) (sym here.0)
    | inr apart ↦ ap (given gives e) (course_apart k p v o q w apart)
  ]

  -- where each chain gives the edge what it gave
  module _ (k l : Courses) (p : ℕ) (same : (w : ℕ) → given gives e (l p w) ≡ given gives e (k p w)) where
    pub same_last : (v : ℕ) (half : Half) → IsLast l gives e p v half → IsLast k gives e p v half
    same_last v half x = record { its = sym (same v) ∙ x.its; last = λ w other h. x.last w other (same w ∙ h) }

    pub same_ungiven : IsUngiven l gives e p → IsUngiven k gives e p
    same_ungiven x w = sym (same w) ∙ x w
