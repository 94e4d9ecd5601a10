-- Lines written over a buffer's start: none, one, one part after another, one that there is no room for. Assumes nothing.
use Prim.Native.Nat.{ℕ, suc, ◌+◌, ◌-◌, ◌≤◌, ◌<◌}
use mathlib.Core.Path.{◌≡◌, refl, sym, ap, ◌∙◌}
use mathlib.Core.List.{List, [], ◌∷◌, ◌++◌}
use mathlib.Core.Bool.{Bool, true, false}
use native.Mathlib.Omega.{arith}
use lib.ListN.{length, take, drop, length-append, length-drop}
use lib.Dec.{leb}
use borrow.Author.Tests.{leb-true, leb-false, le-leb, lt-leb}
use borrow.Rule.Slice.PartMut.{put_mid}
use Rattle.rules.specs.Page.{closed, whole_lines}
use Rattle.laws.proofs.Fitting.{fitting-none, fitting_more, fitting_stops, fitted, fitting_few, fitting-past, fitting-within}
use Rattle.laws.proofs.Sizes.{closed_none, closed-one, closed-append}
use Rattle.buffer.specs.Put.{over, put_at}
use Rattle.buffer.proofs.Laws.{over_none, over-put, length_over, lent, lent_back}
use Rattle.formatting.specs.Part.{PartIs}
use Rattle.formatting.specs.declared.content_format.Part.{Part}

-- nothing is asked for
pub part_none : (b : List ℕ) → PartIs [] b b (record { lines = 0; bytes = 0; whole = true })
part_none b =
    let e = fitting-none (length b) in
    record {
      lines = rw e;
      bytes = rw (e, closed_none);
      page = rw (e, closed_none) (over_none b);
      whole = sym (le-leb 0 0 (omega arith));
    }

-- one line that fits
pub part-line : (l b a : List ℕ) → length l + 1 ≤ length b → a ≡ over (l ++ (10 ∷ [])) b → PartIs (l ∷ []) b a
    (record { lines = 1; bytes = length l + 1; whole = true })
part-line l b a h e =
    let f : whole_lines (length b) (l ∷ []) ≡ l ∷ [] = fitting_more (length b) l [] h ∙ ap (λ ls. l ∷ ls) (fitting-none (length b - (length l + 1))) in
    record {
      lines = rw f;
      bytes = rw (f, closed-one l) (sym (length-append l (10 ∷ [])));
      page = rw (f, closed-one l) e;
      whole = sym (le-leb 1 1 (omega arith));
    }

-- no room for the first
pub part-full : (l : List ℕ) (ls : List (List ℕ)) (b : List ℕ) → length b < length l + 1 → PartIs (l ∷ ls) b b
    (record { lines = 0; bytes = 0; whole = false })
part-full l ls b h =
    let f = fitting_stops (length b) l ls h in
    record {
      lines = rw f;
      bytes = rw (f, closed_none);
      page = rw (f, closed_none) (over_none b);
      whole = sym (lt-leb (suc (length ls)) 0 (omega arith));
    }

-- a part keeps the buffer's length
pub part_length : (ls : List (List ℕ)) (b a : List ℕ) (r : Part) → PartIs ls b a r → length a ≡ length b
part_length ls b a r P = ap length P.page ∙ length_over (closed (whole_lines (length b) ls)) b (fitted (length b) ls)

pub part_room : (ls : List (List ℕ)) (b a : List ℕ) (r : Part) → PartIs ls b a r → r.bytes ≤ length a
part_room ls b a r P = omega (arith, P.bytes, fitted (length b) ls, part_length ls b a r P)

-- all of it was written
pub part_whole : (ls : List (List ℕ)) (b a : List ℕ) (r : Part) → PartIs ls b a r → r.whole ≡ true → length (whole_lines (length b) ls) ≡ length ls
part_whole ls b a r P w = omega (arith, P.lines, fitting_few (length b) ls, leb-true (length ls) r.lines (sym P.whole ∙ w))

leb-add : (a b c : ℕ) → leb b c ≡ leb (a + b) (a + c)
leb-add a b c = go (leb b c) refl
  where
    go : (x : Bool) → leb b c ≡ x → leb b c ≡ leb (a + b) (a + c)
    go true e = e ∙ sym (le-leb (a + b) (a + c) (omega (arith, leb-true b c e)))
    go false e = e ∙ sym (lt-leb (a + b) (a + c) (omega (arith, leb-false b c e)))

-- a whole part, and another in what is left of the buffer
pub part_join : (ls ms : List (List ℕ)) (b a c ys : List ℕ) (r q : Part) → PartIs ls b a r → r.whole ≡ true → PartIs ms
    (take (length a - r.bytes) (drop r.bytes a)) ys q
    → c ≡ put_mid r.bytes (length a - r.bytes) a ys → PartIs (ls ++ ms) b c
    (record { lines = r.lines + q.lines; bytes = r.bytes + q.bytes; whole = q.whole })
part_join ls ms b a c ys r q P w Q e =
    let n = length b in
    let all = part_whole ls b a r P w in
    let past = fitting-past (length b) ls ms all in
    let at : r.bytes ≡ length (closed ls) = P.bytes ∙ ap (λ l. length (closed l)) past.0 in
    let room = part_room ls b a r P in
    let size : length (take (length a - r.bytes) (drop r.bytes a)) ≡ length b - length (closed ls) =
    ap length (lent a r.bytes) ∙ length-drop r.bytes a ∙ omega (arith, at, part_length ls b a r P) in
    let rest = whole_lines (length b - length (closed ls)) ms in
    let lines : q.lines ≡ length (whole_lines (length b - length (closed ls)) ms) = Q.lines ∙ ap (λ k. length (whole_lines k ms)) size in
    let bytes : q.bytes ≡ length (closed (whole_lines (length b - length (closed ls)) ms)) = Q.bytes ∙ ap (λ k. length (closed (whole_lines k ms))) size in
    let text : ys ≡ over (closed (whole_lines (length b - length (closed ls)) ms)) (take (length a - r.bytes) (drop r.bytes a)) =
    Q.page ∙ ap (λ k. over (closed (whole_lines k ms)) (take (length a - r.bytes) (drop r.bytes a))) size in
    let both = closed-append ls (whole_lines (length b - length (closed ls)) ms) in
    let over_ls : a ≡ over (closed ls) b = P.page ∙ ap (λ l. over (closed l) b) past.0 in
    record {
      lines = omega (arith, lines, P.lines, all, ap length past.1, length-append ls (whole_lines (length b - length (closed ls)) ms));
      bytes = omega (
        arith,
        bytes,
        at,
        ap (λ l. length (closed l)) past.1,
        ap length both,
        length-append (closed ls)
            (closed (whole_lines (length b - length (closed ls)) ms)),
      );
      page = e ∙ lent_back a r.bytes (closed (whole_lines (length b - length (closed ls)) ms)) ys room text
          ∙ ap (λ d. put_at d r.bytes (closed (whole_lines (length b - length (closed ls)) ms))) over_ls
          ∙ over-put (closed ls) b (closed (whole_lines (length b - length (closed ls)) ms)) r.bytes (sym at)
          ∙ ap (λ l. over l b) (sym both ∙ ap closed (sym past.1));
      whole = Q.whole ∙ leb-add (length ls) (length ms) q.lines
          ∙ rw (← length-append ls ms) (ap (λ k. leb (length (ls ++ ms)) (k + q.lines)) (omega (arith, P.lines, all)));
    }

-- a part that isn't whole: nothing after it is written
pub part_short : (ls ms : List (List ℕ)) (b a : List ℕ) (r : Part) → PartIs ls b a r → r.whole ≡ false → PartIs (ls ++ ms) b a r
part_short ls ms b a r P w =
    let h = leb-false (length ls) r.lines (sym P.whole ∙ w) in
    let f = fitting-within (length b) ls ms (omega (arith, P.lines)) in
    record {
      lines = rw f P.lines;
      bytes = rw f P.bytes;
      page = rw f P.page;
      whole = w ∙ sym (lt-leb (length (ls ++ ms)) r.lines (omega (arith, length-append ls ms)));
    }
