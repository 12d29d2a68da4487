-- A sum that takes X and Z on the operands to images, and X and Z on the other qubits to themselves, takes every Pauli on the n qubits to what the map
-- does that extends the images. Assumes nothing.
use Rattle.std.specs.Prelude.{◌≡◌, List, ℕ, ◌<◌}
use Rattle.std.proofs.Common.{sym, ap, ◌∙◌, subst}
use Rattle.pauli.specs.Pauli.{Pauli, identity, X_at, Z_at, ◌∗◌}
use Rattle.frames.specs.Conjugation.{Sum, coefficient_of, Takes, Extends, TakesImages, Within}
use Rattle.frames.proofs.Laws.Gaussian.{times_I^_zero}
use Rattle.frames.proofs.Laws.Products.{one_product, product_one}
use Rattle.frames.proofs.Laws.Takes.{takes_∗}
use Rattle.frames.proofs.Laws.Places.{where_is}
use Rattle.frames.proofs.Laws.Generators.{KeepsProducts, keeps_identity, from_generators}

takes_one : (n : ℕ) (U : Sum) → Takes n U identity identity
takes_one n U =
    record {
      unit = 0;
      equal = λ R. ap (λ W. coefficient_of n W R) (product_one n U ∙ sym (one_product n U)) ∙ sym (times_I^_zero _);
    }

module _ (n : ℕ) (U : Sum) (f : Pauli → Pauli) where
  -- by the generators
  generators_taken : KeepsProducts f → ((q : ℕ) → q < n → Takes n U (X_at q) (f (X_at q))) → ((q : ℕ) → q < n → Takes n U (Z_at q) (f (Z_at q)))
      → (P : Pauli) → Within n P → Takes n U P (f P)
  generators_taken k x z =
      from_generators (λ P. Takes n U P (f P)) n (subst (Takes n U identity) (sym (keeps_identity f k)) (takes_one n U))
      (λ q h P t. subst (Takes n U (X_at q ∗ P)) (sym (k (X_at q) P)) (takes_∗ n (x q h) t))
      (λ q h P t. subst (Takes n U (Z_at q ∗ P)) (sym (k (Z_at q) P)) (takes_∗ n (z q h) t))

  -- by the images, where each is one Pauli
  pub images_taken : (qs : List ℕ) (isX isZ : ℕ → Pauli → Type 0) → ((i : ℕ) (P Q : Pauli) → isX i P → isX i Q → P ≡ Q)
      → ((i : ℕ) (P Q : Pauli) → isZ i P → isZ i Q → P ≡ Q) → Extends n qs isX isZ f → TakesImages n qs isX isZ U → (P : Pauli) → Within n P → Takes n U P (f P)
  images_taken qs isX isZ oneX oneZ e u = generators_taken e.products x z
    where
      x : (q : ℕ) → q < n → Takes n U (X_at q) (f (X_at q))
      x q h =
          where_is qs q (λ o. subst (Takes n U (X_at q)) (sym (e.other_X q h o)) (u.other_X q h o))
          (λ p.
          let (P, is, t) = u.of_X p.place p.inside in
          subst (λ r. Takes n U (X_at r) (f (X_at r))) p.there (subst (Takes n U _) (oneX p.place P _ is (e.of_X p.place p.inside)) t))

      z : (q : ℕ) → q < n → Takes n U (Z_at q) (f (Z_at q))
      z q h =
          where_is qs q (λ o. subst (Takes n U (Z_at q)) (sym (e.other_Z q h o)) (u.other_Z q h o))
          (λ p.
          let (P, is, t) = u.of_Z p.place p.inside in
          subst (λ r. Takes n U (Z_at r) (f (Z_at r))) p.there (subst (Takes n U _) (oneZ p.place P _ is (e.of_Z p.place p.inside)) t))
