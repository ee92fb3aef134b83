-- Of the chains on an edge there is a last one that gave it a half, or none gave one.
use Rattle.chain_world.specs.Invariant.Sound.{IsSoundAt}
use Rattle.graph_model.specs.State.{GraphState}
use Rattle.std.proofs.Common.{◌≡◌, ◌⊎◌, inl, inr, ℕ, zero, suc, ◌≤◌, ◌<◌, Option, None, Some, Bool, refl, ap, sym, ◌∙◌, arith}
use Rattle.std.specs.Prelude.{nat_lt}
use Rattle.std.proofs.lemmas.Bool.{cases_Bool, ltb-true, ltb-false}
use Rattle.graph_model.specs.declared.edge_id.EdgeId.{EdgeId}
use Rattle.graph_model.specs.declared.half.Half.{Half}
use Rattle.chain_world.specs.Course.{Course, Courses}
use Rattle.chain_world.specs.Edges.{given, IsUngiven, HasLast, GivenOrNot}
use Rattle.chain_world.specs.Ledger.{next_of, Ledger}

module _ (k : Courses) (gives : Course → Bool) (e : EdgeId) (p : ℕ) where
  -- the last one of those with a number below n
  record IsLastBelow (n v : ℕ) (half : Half) : Type 0 where
    its : given gives e (k p v) ≡ Some half
    last : (w : ℕ) (other : Half) → w < n → given gives e (k p w) ≡ Some other → w ≤ v

  below : (n : ℕ) → ((v : ℕ) × (half : Half) × IsLastBelow n v half) ⊎ ((w : ℕ) → w < n → given gives e (k p w) ≡ None)
  below zero = inr (λ w low. absurd (omega arith))
  below (suc n) = at_top (given gives e (k p n)) refl (below n)
    where
      at_top : (o : Option Half) → given gives e (k p n) ≡ o → ((v : ℕ) × (half : Half) × IsLastBelow n v half) ⊎ ((w : ℕ) → w < n → given gives e (k p w) ≡ None)
          → ((v : ℕ) × (half : Half) × IsLastBelow (suc n) v half) ⊎ ((w : ℕ) → w < suc n → given gives e (k p w) ≡ None)
      at_top (Some half) is rest = inl (n, half, record { its = is; last = λ w other low h. omega arith })
      at_top None is (inl x) = inl (
        x.0,
        x.1,
        record {
          its = x.2.its;
          last = λ w other low h. elim (cases_Bool (nat_lt w n)) [
            | inl lower ↦ x.2.last w other (ltb-true w n lower) h
            | inr higher ↦ (let l = ltb-false w n higher in let same : w ≡ n = omega arith in let t : None ≡ Some other = sym is ∙ ap (λ j. given gives e (k p j)) (sym same) ∙ h in cc)
          ];
        },
      )
      at_top None is (inr none) = inr (λ w low. elim (cases_Bool (nat_lt w n)) [
        | inl lower ↦ none w (ltb-true w n lower)
        | inr higher ↦ (let l = ltb-false w n higher in let same : w ≡ n = omega arith in ap (λ j. given gives e (k p j)) same ∙ is)
      ])

  each_or_none : (n : ℕ) → ((w : ℕ) → n ≤ w → k p w ≡ None) → HasLast k gives e p ⊎ IsUngiven k gives e p
  each_or_none n fresh = elim (below n) [
    | inl x ↦ inl (record {
      number = x.0;
      half = x.1;
      is_last = record {
        its = x.2.its;
        last = λ w other h. elim (cases_Bool (nat_lt w n)) [
          | inl lower ↦ x.2.last w other (ltb-true w n lower) h
          | inr higher ↦ (let t : None ≡ Some other = ap (given gives e) (sym (fresh w (ltb-false w n higher))) ∙ h in cc)
        ];
      };
    })
    | inr none ↦ inr (λ w. elim (cases_Bool (nat_lt w n)) [
      | inl lower ↦ none w (ltb-true w n lower)
      | inr higher ↦ ap (given gives e) (fresh w (ltb-false w n higher))
    ])
  ]

pub given_or_not : (parts : ℕ) (l : Ledger) (k : Courses) (g : GraphState) → IsSoundAt parts l k g → GivenOrNot k
given_or_not parts l k g sound gives e p = each_or_none k gives e p (next_of l p) (sound.holds.chains.fresh p)
