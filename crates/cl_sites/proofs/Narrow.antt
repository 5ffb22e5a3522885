-- Signatures of operations with few fields have few marks.
use Rattle.std.proofs.Common.{ℕ, ◌≡◌, ◌≤◌, List, [], ◌∷◌, length, map, ap, arith}
use Rattle.std.specs.List.{All, AllByRecursion}
use Rattle.std.proofs.lemmas.List.Elements.{All-from_recursion}
use Rattle.cl_ast.specs.declared.tree.Operation.{out-Operation}
use Rattle.cl_ast.specs.declared.tree.Field.{Field}
use Rattle.cl_types.specs.declared.fields.form.FieldForm.{FieldForm}
use Rattle.cl_types.specs.Findings.{Told}
use Rattle.cl_types.specs.EachTyped.{EachNarrow}
use Rattle.cl_sig.specs.declared.signature.Signature.{Signature}
use Rattle.cl_sig.specs.Signatures.{PlainSignature}
use Rattle.cl_sig.specs.Views.{plain_signature}
use Rattle.cl_sites.specs.Sites.{marks_of, signature_of}

-- no more marks than kinds of fields
marks_few : (texts : List (List ℕ)) (fields : List Field) (fs : List FieldForm) → length (marks_of texts fields fs) ≤ length fs
marks_few texts [] fs = omega arith
marks_few texts (field ∷ fields) [] = omega arith
marks_few texts (field ∷ fields) (f ∷ fs) = let more = marks_few texts fields fs in omega arith

abbrev IsNarrow : Signature → Type 0
IsNarrow s = length s.fields.items ≤ 16

by_cases : (texts : List (List ℕ)) (ss : List Signature) (fs : Told)
    → map plain_signature ss ≡ map (signature_of texts) fs → EachNarrow fs → AllByRecursion IsNarrow ss
by_cases texts [] fs e n = tt
by_cases texts (s ∷ ss) [] e n = cc
by_cases texts (s ∷ ss) (f ∷ fs) e n =
    let here : plain_signature s ≡ signature_of texts f = cc in
    let few = marks_few texts (out-Operation f.0).fields f.1 in
    let same : s.fields.items ≡ marks_of texts (out-Operation f.0).fields f.1 = ap (λ (p : PlainSignature). p.fields) here in
    (rw same (omega (arith, few, n.0)), by_cases texts ss fs (cc) n.1)

pub each_narrow : (texts : List (List ℕ)) (ss : List Signature) (fs : Told)
    → map plain_signature ss ≡ map (signature_of texts) fs → EachNarrow fs → All IsNarrow ss
each_narrow texts ss fs e n = All-from_recursion IsNarrow ss (by_cases texts ss fs e n)
