-- Three numbers, each after its words.
use Rattle.std.proofs.Common.{◌≡◌, ℕ, List, ◌++◌, ap, sym, ◌∙◌, append_assoc}

one_more : (old x w d : List ℕ) → (old ++ x) ++ (w ++ d) ≡ old ++ ((x ++ w) ++ d)
one_more old x w d = append_assoc old x (w ++ d) ∙ ap (λ t. old ++ t) (sym (append_assoc x w d))

pub three_counts : (old v a w b x c end : List ℕ) → (((old ++ (v ++ a)) ++ (w ++ b)) ++ (x ++ c)) ++ end ≡ old ++ ((((((v ++ a) ++ w) ++ b) ++ x) ++ c) ++ end)
three_counts old v a w b x c end =
    ap (λ t. (t ++ (x ++ c)) ++ end) (one_more old (v ++ a) w b)
    ∙ ap (λ t. t ++ end) (one_more old (((v ++ a) ++ w) ++ b) x c)
    ∙ append_assoc old ((((((v ++ a) ++ w) ++ b) ++ x) ++ c)) end
