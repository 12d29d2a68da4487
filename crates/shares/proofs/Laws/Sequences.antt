-- Laws: the marks and the places handed out, over a sequence of calls. Assumes nothing.
use Rattle.std.specs.Prelude.{◌≡◌, refl, ◌⊎◌, ℕ, zero, suc, ◌+◌, ◌-◌, ◌≤◌, ◌<◌, length, take, replicate}
use Rattle.std.proofs.Common.{sym, ap₂, subst, ◌∙◌, inl, inr, length-set}
use Rattle.std.proofs.Math.Path.{ap}
use mathlib.Core.List.{List, [], ◌∷◌}
use native.Mathlib.Omega.{arith}
use Rattle.std.proofs.Math.ListN.{get_or, length-append}
use Rattle.std.proofs.lemmas.List.{length-replicate}
use Rattle.job.specs.Reply.{TextReply, refused_text}
use Rattle.run.specs.Run.{RunReply, untouched}
use Rattle.shares.specs.Shares.{sum, stretch_from, moved}
use Rattle.shares.specs.Replies.{shared_run_reply, shared_settle_reply}
use Rattle.shares.specs.Account.{places, times, with_main, Call, caller_of, marks_by, handed_by, marks_through, handed_through, share_of, nothing_taken, Within, left_in_stretches, left_in_common}
use Rattle.shares.proofs.Laws.Places.{times_append, times_before, times_behind, length_places, marked, marked_moved, within_at, within_moved, within_common, within_none, left_moved, left_common}
use Rattle.shares.proofs.Laws.Words.{own_length, common_length}
use Rattle.shares.proofs.Laws.Moves.{Moves, Called, called}

-- ---- lists

pub get_d_moved : (marks : List ℕ) (i t : ℕ) → i < length marks → get_or (moved marks i t) i 0 ≡ get_or marks i 0 + t
unfolding moved
get_d_moved [] i t h = absurd (omega (arith, h))
get_d_moved (k ∷ marks) zero t h = refl
get_d_moved (k ∷ marks) (suc i) t h = get_d_moved marks i t (omega (arith, h))

pub get_D_other : (marks : List ℕ) (i j t : ℕ) → (i ≡ j → ⊥) → get_or (moved marks i t) j 0 ≡ get_or marks j 0
unfolding moved
get_D_other [] i j t d = refl
get_D_other (k ∷ marks) zero zero t d = absurd (d refl)
get_D_other (k ∷ marks) zero (suc j) t d = refl
get_D_other (k ∷ marks) (suc i) zero t d = refl
get_D_other (k ∷ marks) (suc i) (suc j) t d = get_D_other marks i j t (λ e. d (ap suc e))

length_moved : (marks : List ℕ) (i t : ℕ) → length (moved marks i t) ≡ length marks
unfolding moved
length_moved marks i t = length-set marks i (get_or marks i 0 + t)

all_taken : (shares : List ℕ) → take (length shares) shares ≡ shares
all_taken [] = refl
all_taken (n ∷ shares) = ap (λ (l : List ℕ). n ∷ l) (all_taken shares)

pub common_none : (shares beyond : List ℕ) → get_or (nothing_taken shares beyond) (length shares) 0 ≡ 0
common_none [] beyond = refl
common_none (n ∷ shares) beyond = common_none shares beyond

-- ---- one call

module _ (main shares : List ℕ) where
  module _ (caller : ℕ) (marks next handed-places : List ℕ) (w : Within main shares marks) (m : Moves (share_of main shares caller marks) main next handed-places) where
    abbrev mid : List ℕ
    mid = moved marks caller m.own

    own_room : get_or marks caller 0 + m.own ≤ get_or shares caller 0
    own_room =
        let few = within_at shares marks caller w.each m.fit.caller (omega (arith, m.fit.caller, m.fit.marked)) in
        omega (arith, few, m.own_within, own_length shares marks caller main)

    common_room : get_or marks (length shares) 0 + m.common ≤ length main - sum shares
    common_room = omega (arith, w.common, m.common_within, common_length shares marks main)

    apart : caller ≡ length shares → ⊥
    apart e = omega (arith, e, m.fit.caller)

    mid_common : get_or mid (length shares) 0 ≡ get_or marks (length shares) 0
    mid_common = get_D_other marks caller (length shares) m.own apart

    mid_long : length shares < length mid
    mid_long = omega (arith, length_moved marks caller m.own, w.marked_all)

    pub next_within : Within main shares next
    next_within =
        subst (Within main shares) (sym m.marks_are)
        record {
          marked_all = omega (arith, length_moved mid (length shares) m.common, mid_long);
          each = within_common shares mid (length shares) m.common (within_moved shares marks caller m.own w.each own_room) (omega arith);
          common = omega (arith, get_d_moved mid (length shares) m.common mid_long, mid_common, common_room);
        }

    -- the places that are handed out are those between the marks
    pub next_marked : (p : ℕ) → marked p 0 shares next ≡ marked p 0 shares marks + times p handed-places
    next_marked p =
        ap (marked p 0 shares) m.marks_are
        ∙ marked_moved p 0 shares mid (length shares) m.common (omega arith) mid_long
        ∙ ap₂ ◌+◌ (marked_moved p 0 shares marks caller m.own (omega (arith, m.fit.caller)) (omega (arith, m.fit.caller, w.marked_all)))
        (ap (λ (at : ℕ). times p (places at m.common)) common_from)
        ∙ omega (arith, all)
      where
        front : 0 + sum (take caller shares) + get_or marks caller 0 ≡ stretch_from shares caller + get_or marks caller 0
        front = omega arith

        all : times p handed-places
            ≡ times p (places (0 + sum (take caller shares) + get_or marks caller 0) m.own) + times p (places (sum shares + get_or marks (length shares) 0) m.common)
        all =
            ap (times p) m.handed_are ∙ times_append p (places _ m.own) (places _ m.common)
            ∙ ap (λ (at : ℕ). times p (places at m.own) + times p (places (sum shares + get_or marks (length shares) 0) m.common)) (sym front)

        common_from : 0 + sum (take (length shares) shares) + get_or mid (length shares) 0 ≡ sum shares + get_or marks (length shares) 0
        common_from = rw (all_taken shares, mid_common) (omega arith)

    -- what is left of the parts, and what was handed out
    pub next_left : left_in_stretches shares next + left_in_common main shares next + length handed-places ≡ left_in_stretches shares marks + left_in_common main shares marks
    next_left =
        let handed-length : length handed-places ≡ m.own + m.common =
        ap length m.handed_are ∙ length-append (places _ m.own) (places _ m.common) ∙ ap₂ ◌+◌ (length_places _ m.own) (length_places _ m.common) in
        let stretches : left_in_stretches shares next ≡ left_in_stretches shares mid =
        ap (left_in_stretches shares) m.marks_are ∙ left_common shares mid (length shares) m.common (omega arith) in
        let own-left : left_in_stretches shares mid + m.own ≡ left_in_stretches shares marks =
        left_moved shares marks caller m.own m.fit.caller (omega (arith, m.fit.caller, w.marked_all)) own_room in
        let common-mark : get_or next (length shares) 0 ≡ get_or marks (length shares) 0 + m.common =
        ap (λ (l : List ℕ). get_or l (length shares) 0) m.marks_are ∙ get_d_moved mid (length shares) m.common mid_long ∙ ap (λ (n : ℕ). n + m.common) mid_common in
        omega (arith, handed-length, stretches, own-left, common-mark, common_room)

  -- a call, whatever it answers
  pub call_called : (c : Call) (marks : List ℕ) → Called (share_of main shares (caller_of c) marks) main (marks_by main shares c marks) (handed_by main shares c marks)
  unfolding caller_of marks_by handed_by shared_run_reply shared_settle_reply
  call_called (Call.run c job m) marks = called (λ (r : RunReply). r.answered) (λ a. untouched a (with_main main m)) (λ a. refl) job _ _ _ _
  call_called (Call.settle c job s out) marks = called (λ (r : TextReply). r.answered) (λ a. refused_text a out) (λ a. refl) job _ _ _ _

  module _ (c : Call) (marks : List ℕ) (w : Within main shares marks) where
    pub call_within : Within main shares (marks_by main shares c marks)
    call_within = go (call_called c marks)
      where
        go : Called (share_of main shares (caller_of c) marks) main (marks_by main shares c marks) (handed_by main shares c marks) → Within main shares (marks_by main shares c marks)
        go (Called.took m) = next_within (caller_of c) marks _ _ w m
        go (Called.none e h) = subst (Within main shares) (sym e) w

    pub call_marked : (p : ℕ) → marked p 0 shares (marks_by main shares c marks) ≡ marked p 0 shares marks + times p (handed_by main shares c marks)
    unfolding times
    call_marked p = go (call_called c marks)
      where
        go : Called (share_of main shares (caller_of c) marks) main (marks_by main shares c marks) (handed_by main shares c marks)
            → marked p 0 shares (marks_by main shares c marks) ≡ marked p 0 shares marks + times p (handed_by main shares c marks)
        go (Called.took m) = next_marked (caller_of c) marks _ _ w m p
        go (Called.none e h) = omega (arith, ap (marked p 0 shares) e, ap (times p) h)

    pub call_left : left_in_stretches shares (marks_by main shares c marks) + left_in_common main shares (marks_by main shares c marks) + length (handed_by main shares c marks)
        ≡ left_in_stretches shares marks + left_in_common main shares marks
    call_left = go (call_called c marks)
      where
        go : Called (share_of main shares (caller_of c) marks) main (marks_by main shares c marks) (handed_by main shares c marks)
            → left_in_stretches shares (marks_by main shares c marks) + left_in_common main shares (marks_by main shares c marks) + length (handed_by main shares c marks)
            ≡ left_in_stretches shares marks + left_in_common main shares marks
        go (Called.took m) = next_left (caller_of c) marks _ _ w m
        go (Called.none e h) =
            omega (arith, ap (λ (l : List ℕ). left_in_stretches shares l + left_in_common main shares l) e, ap length h)

  -- ---- a sequence of calls

  pub through_within : (cs : List Call) (marks : List ℕ) → Within main shares marks → Within main shares (marks_through main shares cs marks)
  unfolding marks_through
  through_within [] marks w = w
  through_within (c ∷ cs) marks w = through_within cs (marks_by main shares c marks) (call_within c marks w)

  pub through_marked : (cs : List Call) (marks : List ℕ) → Within main shares marks → (p : ℕ)
      → marked p 0 shares (marks_through main shares cs marks) ≡ marked p 0 shares marks + times p (handed_through main shares cs marks)
  unfolding marks_through handed_through times
  through_marked [] marks w p = omega arith
  through_marked (c ∷ cs) marks w p =
      let first = call_marked c marks w p in
      let rest = through_marked cs (marks_by main shares c marks) (call_within c marks w) p in
      omega (arith, first, rest, times_append p (handed_by main shares c marks) (handed_through main shares cs (marks_by main shares c marks)))

  pub through_left : (cs : List Call) (marks : List ℕ) → Within main shares marks
      → left_in_stretches shares (marks_through main shares cs marks) + left_in_common main shares (marks_through main shares cs marks)
      + length (handed_through main shares cs marks)
      ≡ left_in_stretches shares marks + left_in_common main shares marks
  unfolding marks_through handed_through
  through_left [] marks w = omega arith
  through_left (c ∷ cs) marks w =
      let first = call_left c marks w in
      let rest = through_left cs (marks_by main shares c marks) (call_within c marks w) in
      omega (arith, first, rest, length-append (handed_by main shares c marks) (handed_through main shares cs (marks_by main shares c marks)))

  pub nothing_taken_lem : (beyond : List ℕ) → Within main shares (nothing_taken shares beyond)
  nothing_taken_lem beyond =
      record {
        marked_all =
            omega
            (arith, length-append (replicate (suc (length shares)) 0) beyond, length-replicate {A = ℕ} (suc (length shares)) 0);
        each = within_none shares beyond;
        common = omega (arith, common_none shares beyond);
      }

  -- ---- no word of another's stretch

  pub others_none : (marks : List ℕ) (c : Call) (p : ℕ) → p < sum shares
      → (p < stretch_from shares (caller_of c) ⊎ stretch_from shares (caller_of c) + get_or shares (caller_of c) 0 ≤ p)
      → times p (handed_by main shares c marks) ≡ 0
  unfolding times
  others_none marks c p below apart = go (call_called c marks)
    where
      own_none : (m : Moves (share_of main shares (caller_of c) marks) main (marks_by main shares c marks) (handed_by main shares c marks))
          → (p < stretch_from shares (caller_of c) ⊎ stretch_from shares (caller_of c) + get_or shares (caller_of c) 0 ≤ p)
          → times p (places (stretch_from shares (caller_of c) + get_or marks (caller_of c) 0) m.own) ≡ 0
      own_none m (inl before) = times_before p _ m.own (omega (arith, before))
      own_none m (inr behind) =
          let few = within_at shares marks (caller_of c) m.fit.within m.fit.caller (omega (arith, m.fit.caller, m.fit.marked)) in
          times_behind p _ m.own (omega (arith, behind, few, m.own_within, own_length shares marks (caller_of c) main))

      go : Called (share_of main shares (caller_of c) marks) main (marks_by main shares c marks) (handed_by main shares c marks) → times p (handed_by main shares c marks) ≡ 0
      go (Called.took m) =
          ap (times p) m.handed_are ∙ times_append p (places _ m.own) (places _ m.common)
          ∙ ap₂ ◌+◌ (own_none m apart) (times_before p _ m.common (omega (arith, below)))
      go (Called.none e h) = ap (times p) h
