use Rattle.std.proofs.Common.{◌<◌, ◌-◌, refl, length, sym, ap, ◌∙◌, arith}
use Rattle.ngql_parser.specs.Conds.{behind_not, reads_on}
use Rattle.ngql_parser.proofs.CondLemmas.{not_comes, bracket_opens, test_comes, test_refused, test_within, comes_by, nearer_by}
use Rattle.ngql_parser.proofs.cond.CondReader.read_on.Goals as goal

pub returns-in-Some-clause-comes : goal.returns-in-Some-clause-comes
returns-in-Some-clause-comes c =
    let s = c.args.self.now in
    let some : 0 < s.level.left = omega arith in
    not_comes s.level (reads_on s.outer.items) s.made c.args.tokens.now c.in-Some.next.now (sym c.in-Some.ensures) some c.requires

pub returns-in-Some-behind_word-clause-comes : goal.returns-in-Some-behind_word-clause-comes
returns-in-Some-behind_word-clause-comes c =
    let s = c.args.self.now in
    let n = c.open_level.new.self in
    let some : 0 < s.level.left = omega arith in
    bracket_opens s.level n.level s.outer.items n.outer.items s.made n.made c.args.tokens.now c.in-Some-behind_word.next.now (s.level.left - 1) c.in_default.ensures c.in-Some-behind_word.ensures some
    c.in_ok-open_level.ensures.level refl c.in_ok-open_level.ensures.outer c.in_ok-open_level.ensures.made

pub returns-in-Err-clause-comes : goal.returns-in-Err-clause-comes
returns-in-Err-clause-comes c =
    let s = c.args.self.now in
    let some : 0 < s.level.left = omega arith in
    test_refused s.level (reads_on s.outer.items) s.made c.args.tokens.now c.in_default.ensures c.in_default-behind_word.ensures some c.in-Err.e c.in-Err.ensures

pub returns-clause-comes : goal.returns-clause-comes
returns-clause-comes c =
    let s = c.args.self.now in
    let some : 0 < s.level.left = omega arith in
    comes_by c.end_levels.result c.end_levels.new.self.outer.items c.end_levels.new.self.level c.end_levels.new.self.made _ _
    (test_comes s.level (reads_on s.outer.items) s.made c.args.tokens.now c.in-Ok.read.1.now c.in-Ok.read.0 (sym c.in_default.ensures) (sym c.in_default-behind_word.ensures) some c.in-Ok.ensures
    ∙ ap (λ m. behind_not s.level (reads_on s.outer.items) m c.in-Ok.read.1.now) (sym c.in_ok-push.ensures.ok))
    c.end_levels.ensures.comes

pub returns-clause-nearer : goal.returns-clause-nearer
returns-clause-nearer c =
    nearer_by c.end_levels.result c.end_levels.new.self.level (length c.in-Ok.read.1.now) (length c.args.tokens.now)
    (test_within (c.args.self.now.level.left - 1) c.args.tokens.now c.in-Ok.read.0 c.in-Ok.read.1.now c.in-Ok.ensures) c.end_levels.ensures.nearer
