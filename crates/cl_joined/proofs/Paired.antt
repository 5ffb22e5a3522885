-- Reports beside participants, one for one: each report is of a participant, and each participant has a report.
use Rattle.std.proofs.Common.{inl, inr, List, [], ◌∷◌, refl, subst}
use Rattle.std.specs.List.{AllZip}
use Rattle.cl_merge.specs.Members.{In}
use Rattle.cl_joined.specs.Joined.{IsReportOf}
use Rattle.cl_joined.specs.Laws.{PairedAreReports}

left_has : {A B : Type 0} (R : A → B → Type 0) (xs : List A) (ys : List B) → AllZip R xs ys → (x : A) → In x xs → (y : B) × In y ys × R x y
left_has R [] ys z x k = absurd k
left_has R (a ∷ xs) [] z x k = absurd z
left_has R (a ∷ xs) (b ∷ ys) z x (inl e) = (b, inl refl, subst (λ c. R c b) e z.0)
left_has R (a ∷ xs) (b ∷ ys) z x (inr k) = let r = left_has R xs ys z.1 x k in (r.0, inr r.1, r.2)

right_has : {A B : Type 0} (R : A → B → Type 0) (xs : List A) (ys : List B) → AllZip R xs ys → (y : B) → In y ys → (x : A) × In x xs × R x y
right_has R xs [] z y k = absurd k
right_has R [] (b ∷ ys) z y k = absurd z
right_has R (a ∷ xs) (b ∷ ys) z y (inl e) = (a, inl refl, subst (λ c. R a c) e z.0)
right_has R (a ∷ xs) (b ∷ ys) z y (inr k) = let r = right_has R xs ys z.1 y k in (r.0, inr r.1, r.2)

pub paired_are_reports : PairedAreReports
paired_are_reports meaning kind histories participants reports z =
    record {
      each = λ r k. right_has (IsReportOf meaning kind histories) participants reports z r k;
      all = λ q k. left_has (IsReportOf meaning kind histories) participants reports z q k;
    }
