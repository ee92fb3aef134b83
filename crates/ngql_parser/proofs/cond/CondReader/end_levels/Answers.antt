use Rattle.std.proofs.Common.{◌≤◌, length, ap, ◌∙◌, arith}
use Rattle.grammar.specs.Reading.{and_then}
use Rattle.ngql_parser.specs.Conds.{behind_not, reads_on}
use Rattle.ngql_parser.specs.Kinds.{code}
use Rattle.ngql_parser.specs.declared.kind.Kind.TheVariants as kind
use Rattle.ngql_parser.proofs.CondLemmas.{and_ends, or_ends, level_ends, refused_by, word_shorter}
use Rattle.ngql_parser.proofs.Refused.{then_refused}
use Rattle.ngql_parser.proofs.cond.CondReader.end_levels.Goals as goal

pub returns-in-Some-clause-comes : goal.returns-in-Some-clause-comes
returns-in-Some-clause-comes c =
    let s = c.levels.self in
    let n = c.end_not.new.self in
    and_ends s.level n.level s.outer.items n.outer.items s.made n.made c.levels.rest.now c.levels.invariant.same c.in_ok-end_not.ensures.made c.in_ok-end_not.ensures.level c.in_ok-end_not.ensures.outer
    c.in_ok-self.field-0 c.in-Some.next.now c.in-Some.ensures c.in_ok-self.ensures.ok

pub returns-in-Some-behind_word-clause-comes : goal.returns-in-Some-behind_word-clause-comes
returns-in-Some-behind_word-clause-comes c =
    let s = c.levels.self in
    let n = c.end_not.new.self in
    let m = c.end_ands.new.self in
    or_ends s.level n.level s.outer.items n.outer.items s.made n.made c.levels.rest.now c.levels.invariant.same c.in_ok-end_not.ensures.made c.in_ok-end_not.ensures.level c.in_ok-end_not.ensures.outer
    c.in_default.ensures m.level m.outer.items m.made c.in_ok-end_ands.ensures.made c.in_ok-end_ands.ensures.level c.in_ok-end_ands.ensures.outer
    c.in_ok-self-2.field-0 c.in-Some-behind_word.next.now c.in-Some-behind_word.ensures c.in_ok-self-2.ensures.ok

pub returns-in-Err-clause-comes : goal.returns-in-Err-clause-comes
returns-in-Err-clause-comes c =
    let s = c.levels.self in
    let n = c.end_not.new.self in
    let m = c.end_ands.new.self in
    refused_by c.in-Err.e _ _
    (level_ends s.level n.level s.outer.items n.outer.items s.made n.made c.levels.rest.now c.levels.invariant.same c.in_ok-end_not.ensures.made c.in_ok-end_not.ensures.level c.in_ok-end_not.ensures.outer
    c.in_default.ensures m.level m.outer.items m.made c.in_ok-end_ands.ensures.made c.in_ok-end_ands.ensures.level c.in_ok-end_ands.ensures.outer
    c.pop.new.self.items c.in-Some-pop.level c.in_default-behind_word.ensures c.in-Some-pop.ensures.items)
    (then_refused _ c.in-Err.e _ c.in-Err.ensures)

pub levels-preserved : goal.levels-preserved
levels-preserved c =
    let s = c.levels.self in
    let n = c.end_not.new.self in
    let m = c.end_ands.new.self in
    let shorter : length c.in-Ok.read.1.now ≤ length c.levels.rest.now = word_shorter c.in-Some-pop.level.d (code kind.Close) c.levels.rest.now c.in-Ok.read.1.now c.in-Ok.read.0 c.in-Ok.ensures in
    let before : length c.levels.rest.now ≤ length c.args.tokens.now = c.levels.invariant.within in
    record {
      same = level_ends s.level n.level s.outer.items n.outer.items s.made n.made c.levels.rest.now c.levels.invariant.same c.in_ok-end_not.ensures.made c.in_ok-end_not.ensures.level c.in_ok-end_not.ensures.outer
          c.in_default.ensures m.level m.outer.items m.made c.in_ok-end_ands.ensures.made c.in_ok-end_ands.ensures.level c.in_ok-end_ands.ensures.outer
          c.pop.new.self.items c.in-Some-pop.level c.in_default-behind_word.ensures c.in-Some-pop.ensures.items
          ∙ ap (λ x. and_then x (λ at rest. behind_not c.in-Some-pop.level (reads_on c.pop.new.self.items) m.made rest)) c.in-Ok.ensures;
      within = omega (arith, shorter, before);
    }
