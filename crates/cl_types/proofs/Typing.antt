-- How the types of operands go together.
use Rattle.std.proofs.Common.{◌≡◌, ◌∙◌, ◌≤◌, ◌+◌, ap, ℕ, List, ◌∷◌, map, drop, length, Option}
use Rattle.cl_ast.specs.declared.tree.TypeName.{TypeName}
use Rattle.cl_ast.specs.declared.tree.Link.{Link, out-Link}
use Rattle.cl_types.specs.Types.{operated}
use Rattle.cl_types.specs.Declarations.{Known}
use Rattle.cl_types.specs.Expressions.{Judged, LinkJudges, judged_link, chained, judged, judged_operand}
use Rattle.cl_types.proofs.Rules.{link_is}
use Rattle.cl_types.proofs.Judging.{drop_end}

-- what was judged so far has this type, and goes on to the whole
pub record InTyped (whole : Judged) (known : Known) (links : List Link) (i : ℕ) (found : Option TypeName) : Type 0 where
  pub so_far : Judged
  pub type_is : found ≡ so_far.type
  pub rest : whole ≡ chained known so_far (map judged_operand (drop i links))

pub typed_turn : {whole : Judged} (known : Known) (links : List Link) (i : ℕ) (l : Link) (found t found' : Option TypeName) → InTyped whole known links i found →
    drop i links ≡ l ∷ drop (i + 1) links → t ≡ (judged (out-Link l).operand known).type → found' ≡ operated (out-Link l).operator found t → InTyped whole known links (i + 1) found'
typed_turn known links i l found t found' c at ht hf =
    let b = judged (out-Link l).operand known in
    record {
      so_far = judged_link c.so_far (out-Link l).operator b;
      type_is = hf ∙ (ap (λ a. operated (out-Link l).operator a t) c.type_is ∙ ap (operated (out-Link l).operator c.so_far.type) ht);
      rest = c.rest ∙ (ap (λ ys. chained known c.so_far (map judged_operand ys)) at ∙ ap (λ (k : LinkJudges). chained known (judged_link c.so_far k.operator (k.operand known)) (map judged_operand (drop (i + 1) links))) (link_is l));
    }

pub typed_ends : {whole : Judged} (known : Known) (links : List Link) (i : ℕ) (found : Option TypeName) → (c : InTyped whole known links i found) → length links ≤ i → whole ≡ c.so_far
typed_ends known links i found c past = c.rest ∙ ap (λ ys. chained known c.so_far (map judged_operand ys)) (drop_end links i past)
