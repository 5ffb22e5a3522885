use Rattle.std.proofs.Common.{◌≡◌, ◌+◌, ◌∷◌, [], ◌++◌, length, take, get_or, ap, sym, ◌∙◌, arith}
use Rattle.std.proofs.lemmas.List.{take_more, length-take-le}
use Rattle.cl_sig.specs.Shapes.{sites_from}
use Rattle.cl_usage.proofs.FieldLaws.{sites_from-yes, sites_from-no}
use Rattle.cl_usage.proofs.shape.sites_of.Goals as goal
use Rattle.cl_usage.proofs.shape.sites_of.Goals.{then-number-set, else-number-set}

pub loop-site-preserved : goal.loop-site-preserved
loop-site-preserved c =
    let ns = c.args.numbers.now in
    let i = c.loop-site.site in
    let n = get_or ns i 0 in
    let more : sites_from 0 (take (i + 1) ns) c.args.set ≡ sites_from 0 (take i ns ++ n ∷ []) c.args.set =
    ap (λ xs. sites_from 0 xs c.args.set) (take_more ns i 0 c.loop-site-test.true) in
    let count : 0 + length (take i ns) ≡ i = omega (arith, length-take-le i ns (omega arith)) in
    elim c.if-number-set.branch [
      | then-number-set w ↦
          let last = sites_from-yes 0 (take i ns) n c.args.set w.if-number-set.true ∙ ap (λ k. sites_from 0 (take i ns) c.args.set ++ k ∷ []) count in
          rw w.sites-is (record {
            found = w.push.ensures.items ∙ ap (λ xs. xs ++ i ∷ []) c.loop-site.invariant.found ∙ sym last ∙ sym more;
            room = omega arith;
          })
      | else-number-set w ↦
          let last = sites_from-no 0 (take i ns) n c.args.set w.if-number-set.false in
          rw w.sites-is (record { found = c.loop-site.invariant.found ∙ sym last ∙ sym more; room = omega arith })
    ]
