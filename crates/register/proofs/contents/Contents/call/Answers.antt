use Rattle.std.proofs.Common.{◌≡◌, sym, ap, ◌∙◌, rules}
use Rattle.register.proofs.Playing.{closed_empty, closed, entered_first, entered, counts, abandoned}
use Rattle.register.proofs.contents.Contents.call.Goals as goal

pub invariant_of-self-in_default-Open-clause-laid : goal.invariant_of-self-in_default-Open-clause-laid
invariant_of-self-in_default-Open-clause-laid g c = λ d e. absurd (cc)

pub invariant_of-self-in-Claim-this-clause-laid : goal.invariant_of-self-in-Claim-this-clause-laid
invariant_of-self-in-Claim-this-clause-laid g c = λ d e. absurd (cc)

pub invariant_of-self-in_default-Show-2-clause-laid : goal.invariant_of-self-in_default-Show-2-clause-laid
invariant_of-self-in_default-Show-2-clause-laid g c = λ d e. absurd (cc)

pub invariant_of-self-in_default-Enter-2-clause-laid : goal.invariant_of-self-in_default-Enter-2-clause-laid
invariant_of-self-in_default-Enter-2-clause-laid g c = λ d e. absurd (cc)

pub returns-then-n-eq0-clause-rule : goal.returns-then-n-eq0-clause-rule
returns-then-n-eq0-clause-rule g c =
    let r = c.args.self.now in
    let is = c.in-Claiming-Close in
    closed_empty (g.C.Chart.meaning r.chart) r.tables r.phase c.args.call is.claims is.is-0 is.is-1 (sym c.count-n.ensures ∙ c.if-n-eq0.true)

pub returns-else-n-eq0-clause-rule : goal.returns-else-n-eq0-clause-rule
returns-else-n-eq0-clause-rule g c =
    let r = c.args.self.now in
    let is = c.in-Claiming-Close in
    let close = c.close in
    closed (g.C.Chart.meaning r.chart) r.tables r.phase c.args.call is.claims is.is-0 is.is-1 close.result c.count-n.result close.ensures.same close.ensures.none c.count-n.ensures c.if-n-eq0.false

pub returns-in-Some-clause-rule : goal.returns-in-Some-clause-rule
returns-in-Some-clause-rule g c =
    let r = c.args.self.now in
    let is = c.in-Showing-Enter in
    entered_first (g.C.Chart.meaning r.chart) r.tables r.phase c.args.call is.draft is.is-0 is.is-1 (c.in-Some.s, c.in-Some.t) c.in-Some.ensures

pub returns-in_default-clause-rule : goal.returns-in_default-clause-rule
returns-in_default-clause-rule g c =
    let r = c.args.self.now in
    let is = c.in-Showing-Enter in
    entered (g.C.Chart.meaning r.chart) r.tables r.phase c.args.call is.draft is.is-0 is.is-1 c.write.new.self c.forget.new.self c.forget.result c.in_default.ensures (rw c.claims.ensures at c.write.ensures.written) c.forget.ensures.rests c.forget.ensures.count

pub returns-in_default-Abandon-clause-rule : goal.returns-in_default-Abandon-clause-rule
returns-in_default-Abandon-clause-rule g c =
    let r = c.args.self.now in
    let f = c.forget-in_default-Abandon in
    let same : c.in_default-Abandon-1.phase ≡ r.phase = search rules in
    abandoned (g.C.Chart.meaning r.chart) r.tables r.phase c.args.call f.new.self f.result (search rules) (search rules) f.ensures.rests (f.ensures.count ∙ ap counts same)
