-- The words of groups, one after the other. Laws. Assumes nothing.
use Rattle.std.specs.Prelude.{ℕ, zero, suc, ◌+◌, ◌-◌, ◌*◌, ◌≤◌, ◌<◌, ◌≡◌, refl, true, ◌&&◌, drop, replicate}
use Rattle.std.proofs.Common.{zero-add, suc-add, arith, ap₂, ◌∙◌, length-append, length-drop, drop_of_length-le, take_at, drop_at, drop-drop, length-take-le}
use Rattle.std.proofs.Math.Path.{sym, ap}
use mathlib.Core.List.{List, [], ◌∷◌, ◌++◌, map, append-nil, append_assoc, map-append}
use Rattle.std.proofs.Math.ListN.{length, take, length-replicate}
use Rattle.std.proofs.lemmas.List.{replicate-append-replicate, take-append-le, drop-append-le}
use Rattle.std.proofs.Math.Seq.{take_all}
use Rattle.backward.specs.Walk.{Carried}
use Rattle.text.specs.List.{is_rising_of}
use Rattle.text.proofs.Laws.Values.{both}
use Rattle.pauli.specs.Bits.{Bits, ◌△◌, members}
use Rattle.pauli.specs.Pauli.{identity}
use Rattle.pauli.specs.Fixed.{in_set, AllBelow}
use Rattle.pauli.proofs.Laws.Parity.{none_△}
use Rattle.pauli.proofs.Laws.Set.{in_none}
use Rattle.job.specs.Checks.{all_below}
use Rattle.job.proofs.Laws.Lists.{below_at}
use Rattle.single_faults.specs.Groups.{Groups, groups_of, all_recorded}
use Rattle.fault_table.specs.Lent.{carried_in, all_carried, start_of, Startable}
use Rattle.fault_table.specs.Laws.Listed.{ids_at, behind_at, NextGroup, next_group}

-- ---- a part of a list that was written over

pub part_size : (a n : ℕ) → a + n - a ≡ n
part_size a n = omega arith

pub part_long : (l : List ℕ) (a n : ℕ) → a + n ≤ length l → length (take (a + n - a) (drop a l)) ≡ n
part_long l a n h = rw (part_size a n) (length-take-le n (drop a l) (omega (arith, length-drop a l)))

module _ (l part : List ℕ) (a n : ℕ) (size : length part ≡ n) (room : a + n ≤ length l) where
  abbrev pub partly : List ℕ
  partly = take a l ++ (part ++ drop n (drop a l))

  front_long : length (take a l) ≡ a
  front_long = length-take-le a l (omega arith)

  pub partly_before : take a partly ≡ take a l
  partly_before = take_at (take a l) (part ++ drop n (drop a l)) a front_long

  pub partly_length : length partly ≡ length l
  partly_length =
      omega (arith, front_long, length-append (take a l) (part ++ drop n (drop a l)), length-append part (drop n (drop a l)), length-drop n (drop a l), length-drop a l)

  -- up to the part's end
  pub partly_to : take (a + n) partly ≡ take a l ++ part
  partly_to =
      ap (take (a + n)) (sym (append_assoc (take a l) part (drop n (drop a l))))
      ∙ take_at (take a l ++ part) (drop n (drop a l)) (a + n) (omega (arith, length-append (take a l) part, front_long))

  pub partly_behind : drop (a + n) partly ≡ drop (a + n) l
  partly_behind =
      ap (drop (a + n)) (sym (append_assoc (take a l) part (drop n (drop a l))))
      ∙ drop_at (take a l ++ part) (drop n (drop a l)) (a + n) (omega (arith, length-append (take a l) part, front_long))
      ∙ drop-drop n a l

  pub partly_from : drop a partly ≡ part ++ drop (a + n) l
  partly_from = drop_at (take a l) (part ++ drop n (drop a l)) a front_long ∙ ap (λ (r : List ℕ). part ++ r) (drop-drop n a l)

-- ---- groups

-- one more group in front
pub all_first : (n : ℕ) (first rest : List ℕ) → length first ≡ 24 → all_carried (suc n) (first ++ rest) ≡ carried_in first ∷ all_carried n rest
unfolding all_carried
all_first n first rest e =
    ap₂ (λ (g l : List ℕ). carried_in g ∷ all_carried n l) (take_at first rest 24 e) (drop_at first rest 24 e)

-- groups in front of others
pub all_append : (n m : ℕ) (front rest : List ℕ) → length front ≡ n * 24 → all_carried (n + m) (front ++ rest) ≡ all_carried n front ++ all_carried m rest
unfolding all_carried
all_append zero m [] rest e = rw zero-add refl
all_append zero m (a ∷ front) rest e = absurd (omega arith)
all_append (suc n) m front rest e =
    rw suc-add
    (ap₂ (λ (g : List ℕ) (cs : List Carried). carried_in g ∷ cs) (take-append-le 24 front rest (omega arith))
    (ap (all_carried (n + m)) (drop-append-le 24 front rest (omega arith)) ∙ all_append n m (drop 24 front) rest (omega (arith, length-drop 24 front))))

one_group : (part : List ℕ) → length part ≡ 24 → all_carried 1 part ≡ carried_in part ∷ []
unfolding all_carried
one_group part e = ap (λ (g : List ℕ). carried_in g ∷ []) (take_all 24 part (omega arith))

-- ---- the start

-- of a group of zeros, with ids put into its set
pub zeros_started : {group : List ℕ} (after ids : List ℕ) → group ≡ replicate 24 0
    → in_set after ≡ in_set (take (length group - 8) (drop 8 group)) △ members ids
    → carried_in (take 8 group ++ (after ++ drop (length group - 8) (drop 8 group))) ≡ start_of ids
unfolding carried_in start_of identity
zeros_started {group} after ids e h =
    let set : in_set after ≡ members ids = h ∙ rw e (ap (λ (s : Bits). s △ members ids) (in_none 16) ∙ none_△ (members ids)) in
    rw (e, append-nil after) (λ i. record { observable = record { x = in_none 4 i; z = in_none 4 i }; set = set i })

-- ---- the loop

-- The groups of `done` are started in the words before a; those of `rest` stand in the list from a place on.
pub record Starting {list before : List ℕ} (q : Startable list before) (at a : ℕ) (state : List ℕ) : Type 0 where
  pub done : List (List ℕ)
  pub rest : List (List ℕ)
  pub split : done ++ rest ≡ q.groups
  pub left : groups_of (drop at list) ≡ Groups.whole rest
  pub known : all_recorded q.recorded rest ≡ true
  pub place : a ≡ length done * 24
  pub long : length state ≡ length q.groups * 24
  pub started : all_carried (length done) (take a state) ≡ map start_of done
  pub zeros : drop a state ≡ replicate (length rest * 24) 0

module _ {list before : List ℕ} (q : Startable list before) where
  pub start_none : Starting q 0 0 before
  unfolding all_carried
  start_none =
      record {
        done = [];
        rest = q.groups;
        split = refl;
        left = q.are;
        known = q.known;
        place = refl;
        long = ap length q.zeros ∙ length-replicate (length q.groups * 24) 0;
        started = refl;
        zeros = q.zeros;
      }

  module _ {at a : ℕ} {state : List ℕ} (s : Starting q at a state) where
    pub start_done : length list ≤ at → all_carried (length q.groups) state ≡ map start_of q.groups
    unfolding groups_of
    start_done h =
        let empty : s.rest ≡ [] = let e = sym s.left ∙ ap groups_of (drop_of_length-le list h) in cc in
        let all : s.done ≡ q.groups = sym (append-nil s.done) ∙ ap (λ (gs : List (List ℕ)). s.done ++ gs) (sym empty) ∙ s.split in
        let whole : take a state ≡ state = take_all a state (omega (arith, s.place, s.long, ap length all)) in
        rw (all, whole) at s.started

    module _ (inside : at < length list) where
      next : NextGroup list at s.rest
      next = next_group list at s.rest inside s.left

      pub ids_fit : behind_at list at ≤ length list
      ids_fit = next.fits

      recorded : ((is_rising_of (ids_at list at) && all_below q.recorded (ids_at list at)) ≡ true) × (all_recorded q.recorded next.behind ≡ true)
      unfolding all_recorded
      recorded =
          both (is_rising_of (ids_at list at) && all_below q.recorded (ids_at list at)) (all_recorded q.recorded next.behind) (rw next.is at s.known)

      pub ids_below : AllBelow 1024 (ids_at list at)
      ids_below =
          let below = (both (is_rising_of (ids_at list at)) (all_below q.recorded (ids_at list at)) recorded.0).1 in
          record { below = λ i h. omega (arith, below_at _ (ids_at list at) below i h, q.few) }

      groups_left : length s.rest ≡ suc (length next.behind)
      groups_left = ap length next.is

      pub group_room : a + 24 ≤ length state
      group_room = omega (arith, s.place, s.long, ap length s.split, length-append s.done s.rest, groups_left)

      words_left : drop a state ≡ replicate 24 0 ++ replicate (length next.behind * 24) 0
      words_left =
          let m : length s.rest * 24 ≡ 24 + length next.behind * 24 = omega (arith, groups_left) in
          s.zeros ∙ ap (λ (n : ℕ). replicate n 0) m ∙ sym (replicate-append-replicate 24 (length next.behind * 24) 0)

      pub group_zeros : take 24 (drop a state) ≡ replicate 24 0
      group_zeros = rw words_left (take_at (replicate 24 0) (replicate (length next.behind * 24) 0) 24 refl)

      pub start_more : (part : List ℕ) → length part ≡ 24 → carried_in part ≡ start_of (ids_at list at)
          → Starting q (behind_at list at) (a + 24) (take a state ++ (part ++ drop 24 (drop a state)))
      start_more part size is =
          let n = length s.done in
          let one : length (s.done ++ ids_at list at ∷ []) ≡ n + 1 = length-append s.done (ids_at list at ∷ []) in
          record {
            done = s.done ++ ids_at list at ∷ [];
            rest = next.behind;
            split = append_assoc s.done (ids_at list at ∷ []) next.behind ∙ ap (λ (gs : List (List ℕ)). s.done ++ gs) (sym next.is) ∙ s.split;
            left = next.left;
            known = recorded.1;
            place = omega (arith, s.place, length-append s.done (ids_at list at ∷ []));
            long = partly_length state part a 24 size group_room ∙ s.long;
            started =
                ap₂ all_carried one (partly_to state part a 24 size group_room)
                ∙ all_append n 1 (take a state) part (omega (arith, length-take-le a state (omega (arith, group_room)), s.place))
                ∙ ap₂ ◌++◌ s.started (one_group part size ∙ ap (λ (c : Carried). c ∷ []) is)
                ∙ sym (map-append start_of s.done (ids_at list at ∷ []));
            zeros =
                partly_behind state part a 24 size group_room
                ∙ sym (drop-drop 24 a state)
                ∙ ap (drop 24) words_left
                ∙ drop_at (replicate 24 0) (replicate (length next.behind * 24) 0) 24 refl;
          }
