-- The lent list, group after group. Laws. Assumes nothing.
use Rattle.std.specs.Prelude.{ℕ, zero, suc, ◌+◌, ◌≤◌, ◌<◌, ◌≡◌, Bool, true, false, ◌&&◌, List, [], ◌∷◌, leb, length, get_or, take, drop, Some, None}
use Rattle.std.proofs.Common.{arith, sym, ◌∙◌, leb-true, leb-false, drop_of_length-le, length-drop, drop-drop}
use Rattle.std.proofs.Math.Path.{refl, ap}
use Rattle.std.proofs.Math.Bool.{cond}
use Rattle.text.specs.List.{is_rising_of}
use Rattle.text.proofs.Laws.Pieces.{step}
use Rattle.pauli.proofs.Laws.F2.{&&_false}
use Rattle.job.specs.Checks.{all_below}
use Rattle.single_faults.specs.Groups.{Groups, with_id, id_before, empty_before, group_of, groups_of, all_recorded}
use Rattle.fault_table.specs.Lent.{grouping_of}

-- a group in front of others
unfoldable pub group_before : List ℕ → Groups → Groups
group_before g Groups.cut_short = Groups.cut_short
group_before g (Groups.whole gs) = Groups.whole (g ∷ gs)

id_before_lem : (id : ℕ) (g : List ℕ) (gs : Groups) → id_before id (group_before g gs) ≡ group_before (id ∷ g) gs
unfolding id_before group_before with_id
id_before_lem id g Groups.cut_short = refl
id_before_lem id g (Groups.whole gs) = refl

-- a group that is all there
group_whole : (k : ℕ) (ws : List ℕ) → k ≤ length ws → group_of k ws ≡ group_before (take k ws) (groups_of (drop k ws))
unfolding group_of groups_of group_before empty_before
group_whole zero [] h = refl
group_whole zero (w ∷ ws) h = go (group_of w ws)
  where
    go : (gs : Groups) → empty_before gs ≡ group_before [] gs
    go Groups.cut_short = refl
    go (Groups.whole gs) = refl
group_whole (suc k) [] h = absurd (omega arith)
group_whole (suc k) (w ∷ ws) h = ap (id_before w) (group_whole k ws (omega arith)) ∙ id_before_lem w (take k ws) (groups_of (drop k ws))

-- one that isn't
group_cut : (k : ℕ) (ws : List ℕ) → length ws < k → group_of k ws ≡ Groups.cut_short
unfolding group_of id_before
group_cut zero ws h = absurd (omega arith)
group_cut (suc k) [] h = refl
group_cut (suc k) (w ∷ ws) h = ap (id_before w) (group_cut k ws (omega arith))

-- ---- the loop

-- the ids of the group that begins at a place, and the place behind it
abbrev pub ids_at : List ℕ → ℕ → List ℕ
ids_at list at = take (get_or list at 0) (drop (at + 1) list)

abbrev pub behind_at : List ℕ → ℕ → ℕ
behind_at list at = at + 1 + get_or list at 0

module _ (list : List ℕ) (at : ℕ) (inside : at < length list) where
  here : groups_of (drop at list) ≡ group_of (get_or list at 0) (drop (at + 1) list)
  unfolding groups_of
  here = ap groups_of (step list at inside)

  pub groups_cut : length list < behind_at list at → groups_of (drop at list) ≡ Groups.cut_short
  groups_cut h = here ∙ group_cut _ _ (omega (arith, length-drop (at + 1) list))

  pub groups_here : behind_at list at ≤ length list → groups_of (drop at list) ≡ group_before (ids_at list at) (groups_of (drop (behind_at list at) list))
  groups_here h =
      here
      ∙ group_whole _ _ (omega (arith, length-drop (at + 1) list))
      ∙ ap (λ (l : List ℕ). group_before (ids_at list at) (groups_of l)) (drop-drop (get_or list at 0) (at + 1) list)

-- of a list that is not cut short, the group at a place and those behind it
pub record NextGroup (list : List ℕ) (at : ℕ) (rest : List (List ℕ)) : Type 0 where
  pub fits : behind_at list at ≤ length list
  pub behind : List (List ℕ)
  pub left : groups_of (drop (behind_at list at) list) ≡ Groups.whole behind
  pub is : rest ≡ ids_at list at ∷ behind

no_whole : {gs : List (List ℕ)} → Groups.cut_short ≡ Groups.whole gs → ⊥
no_whole e = let z : ◌≡◌ {A = ℕ} 0 1 = cc in omega arith

pub next_group : (list : List ℕ) (at : ℕ) (rest : List (List ℕ)) → at < length list → groups_of (drop at list) ≡ Groups.whole rest → NextGroup list at rest
unfolding group_before
next_group list at rest inside e = go (leb (behind_at list at) (length list)) refl
  where
    found : behind_at list at ≤ length list → (gs : Groups) → groups_of (drop (behind_at list at) list) ≡ gs → group_before (ids_at list at) gs ≡ Groups.whole rest
        → NextGroup list at rest
    found h Groups.cut_short left is = absurd (no_whole is)
    found h (Groups.whole gs) left is = record { fits = h; behind = gs; left = left; is = cc }

    go : (t : Bool) → leb (behind_at list at) (length list) ≡ t → NextGroup list at rest
    go true t = let h = leb-true (behind_at list at) (length list) t in found h _ refl (sym (groups_here list at inside h) ∙ e)
    go false t = absurd (no_whole (sym (groups_cut list at inside (leb-false (behind_at list at) (length list) t)) ∙ e))

module _ (r n : ℕ) (g : List ℕ) where
  pub refused_by : (gs : Groups) → (is_rising_of g && all_below r g) ≡ false → grouping_of r n (group_before g gs) ≡ None
  unfolding group_before grouping_of all_recorded
  refused_by Groups.cut_short e = refl
  refused_by (Groups.whole gs) e = rw e refl

  pub one_more : (gs : Groups) → is_rising_of g ≡ true → all_below r g ≡ true → grouping_of r n (group_before g gs) ≡ grouping_of r (n + 1) gs
  unfolding group_before grouping_of all_recorded
  one_more Groups.cut_short e f = refl
  one_more (Groups.whole gs) e f = rw (e, f) (ap (λ (m : ℕ). cond (all_recorded r gs) (Some m) None) (omega arith))

pub unrisen : (r : ℕ) (g : List ℕ) → is_rising_of g ≡ false → (is_rising_of g && all_below r g) ≡ false
unrisen r g e = rw e refl

pub unrecorded : (r : ℕ) (g : List ℕ) → all_below r g ≡ false → (is_rising_of g && all_below r g) ≡ false
unrecorded r g e = rw e (&&_false (is_rising_of g))

pub no_groups : (r n : ℕ) (list : List ℕ) (at : ℕ) → length list ≤ at → grouping_of r n (groups_of (drop at list)) ≡ Some n
unfolding groups_of grouping_of all_recorded
no_groups r n list at h = rw (drop_of_length-le list h) (ap Some (omega arith))

pub cut_refused : (r n : ℕ) → grouping_of r n Groups.cut_short ≡ None
unfolding grouping_of
cut_refused r n = refl
