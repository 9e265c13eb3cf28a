use Rattle.std.proofs.Common.{◌≡◌, ◌-◌, ◌++◌, true, false, Some, map, ap, sym, ◌∙◌, arith, length, take}
use Rattle.std.proofs.lemmas.Result.{err_from_is_err_and}
use Rattle.irs_xml.specs.Private.Reading.{inside_view, mark_view, child_at, element_at, piece_at}
use Rattle.irs_xml.specs.Tags.{is_opened, is_opened_in, scope_in, declarations}
use Rattle.irs_xml.specs.Private.TagViews.{opening_view, scope_view, setting_view, tag_view}
use Rattle.irs_xml.proofs.ChildSteps.{child_none, child_no_tag, child_closed, child_goes, scope_back}
use Rattle.irs_xml.proofs.ContentSteps.{content_wrong, content_broken, content_ends, content_more}
use Rattle.irs_xml.proofs.PlainSteps.{content_plain, plain_short}
use Rattle.irs_xml.proofs.SettingSteps.{fails_then}
use Rattle.irs_xml.proofs.Shorter.{mark_short, piece_short, child_short}
use Rattle.irs_xml.proofs.content.+element.Goals as goal

pub child-returns-then-levels-eq0-clause-gives : goal.child-returns-then-levels-eq0-clause-gives
child-returns-then-levels-eq0-clause-gives t c = child_none _ _ _ _ _ c.if-levels-eq0.true

pub child-returns-in_err-tag-clause-gives : goal.child-returns-in_err-tag-clause-gives
child-returns-in_err-tag-clause-gives t c =
    let p = err_from_is_err_and c.from_residual.result c.from_residual.ensures.1 in
    rw (p.1, p.2) (fails_then c.in_err-tag.field-0.0 _ _ c.in_err-tag.ensures (child_no_tag _ _ _ _ _))

pub child-returns-then-not-opened-clause-gives : goal.child-returns-then-not-opened-clause-gives
child-returns-then-not-opened-clause-gives t c =
    let tag = c.in_ok-tag.tag in
    let scope : scope_view c.declare_all.new.scope.items ≡ scope_in (scope_view c.args.scope.now.items) (opening_view tag).settings =
    c.in_ok-declare_all.ensures ∙ ap (λ ss. scope_view c.args.scope.now.items ++ declarations (map setting_view ss)) c.as_slice.ensures.value in
    let closed : is_opened (scope_view c.args.scope.now.items) (opening_view tag) ≡ false =
    ap (λ s. is_opened_in s (opening_view tag)) (sym scope)
    ∙ ap (λ ds. is_opened_in (scope_view ds) (opening_view tag)) (sym c.as_slice-2.ensures.value)
    ∙ sym c.in_ok-opened.ensures ∙ c.if-not-opened.true in
    child_closed _ _ _ _ _ (tag_view tag) c.tag.new.reader c.in_ok-tag.ensures closed

pub child-returns-in_err-member-clause-gives : goal.child-returns-in_err-member-clause-gives
child-returns-in_err-member-clause-gives t c =
    let tag = c.in_ok-tag.tag in
    let scope : scope_view c.declare_all.new.scope.items ≡ scope_in (scope_view c.args.scope.now.items) (opening_view tag).settings =
    c.in_ok-declare_all.ensures ∙ ap (λ ss. scope_view c.args.scope.now.items ++ declarations (map setting_view ss)) c.as_slice.ensures.value in
    let opened : is_opened (scope_view c.args.scope.now.items) (opening_view tag) ≡ true =
    ap (λ s. is_opened_in s (opening_view tag)) (sym scope)
    ∙ ap (λ ds. is_opened_in (scope_view ds) (opening_view tag)) (sym c.as_slice-2.ensures.value)
    ∙ sym c.in_ok-opened.ensures ∙ c.if-not-opened.false in
    let p = err_from_is_err_and c.from_residual-in_err-member.result c.from_residual-in_err-member.ensures.1 in
    let goes = child_goes c.args.root.now c.args.levels c.args.kept (scope_view c.args.scope.now.items) c.args.reader.now (tag_view tag) c.tag.new.reader
    c.if-levels-eq0.false c.in_ok-tag.ensures opened in
    rw (p.1, p.2) (fails_then c.in_err-member.field-0.0 _ _ c.in_err-member.ensures.gives (λ none. goes
    ∙ ap (λ s. element_at (child_at c.args.root.now (c.args.levels - 1)) c.args.root.now c.args.kept s (tag_view tag) c.tag.new.reader) (sym scope) ∙ none))

pub child-returns-clause-gives : goal.child-returns-clause-gives
child-returns-clause-gives t c =
    let tag = c.in_ok-tag.tag in
    let scope : scope_view c.declare_all.new.scope.items ≡ scope_in (scope_view c.args.scope.now.items) (opening_view tag).settings =
    c.in_ok-declare_all.ensures ∙ ap (λ ss. scope_view c.args.scope.now.items ++ declarations (map setting_view ss)) c.as_slice.ensures.value in
    let opened : is_opened (scope_view c.args.scope.now.items) (opening_view tag) ≡ true =
    ap (λ s. is_opened_in s (opening_view tag)) (sym scope)
    ∙ ap (λ ds. is_opened_in (scope_view ds) (opening_view tag)) (sym c.as_slice-2.ensures.value)
    ∙ sym c.in_ok-opened.ensures ∙ c.if-not-opened.false in
    child_goes c.args.root.now c.args.levels c.args.kept (scope_view c.args.scope.now.items) c.args.reader.now (tag_view tag) c.tag.new.reader
    c.if-levels-eq0.false c.in_ok-tag.ensures opened
    ∙ ap (λ s. element_at (child_at c.args.root.now (c.args.levels - 1)) c.args.root.now c.args.kept s (tag_view tag) c.tag.new.reader) (sym scope)
    ∙ c.in_ok-member.ensures.gives

pub child-returns-clause-scope : goal.child-returns-clause-scope
child-returns-clause-scope t c =
    ap scope_view c.truncate.ensures.items
    ∙ ap (λ ds. scope_view (take (length ds) c.element.new.scope.items)) c.as_slice-around.ensures.value
    ∙ scope_back c.args.scope.now.items c.element.new.scope.items _ (c.in_ok-member.ensures.scope ∙ c.in_ok-declare_all.ensures)

pub content-returns-in_default-clause-gives : goal.content-returns-in_default-clause-gives
content-returns-in_default-clause-gives t c =
    let goes = content_plain (inside_view c.plain.new.inside) c.plain.new.reader c.pieces.invariant.goes c.in_ok-plain.ensures in
    content_wrong goes c.in_default.ensures

pub content-returns-in_err-piece-clause-gives : goal.content-returns-in_err-piece-clause-gives
content-returns-in_err-piece-clause-gives t c =
    let goes = content_plain (inside_view c.plain.new.inside) c.plain.new.reader c.pieces.invariant.goes c.in_ok-plain.ensures in
    let p = err_from_is_err_and c.from_residual-in_err-piece.result c.from_residual-in_err-piece.ensures.1 in
    rw (p.1, p.2) (fails_then c.in_err-piece.field-0.0 _ _ c.in_err-piece.ensures.gives (λ none.
    content_broken (mark_view c.in-Some.next) c.next_mark.new.reader goes c.in-Some.ensures
    (ap (λ s. piece_at (child_at c.args.root.now c.args.levels c.args.kept s) (inside_view c.plain.new.inside) (mark_view c.in-Some.next) c.next_mark.new.reader)
    (sym c.pieces.invariant.scope) ∙ none)))

pub content-returns-then-branch-clause-gives : goal.content-returns-then-branch-clause-gives
content-returns-then-branch-clause-gives t c =
    let goes = content_plain (inside_view c.plain.new.inside) c.plain.new.reader c.pieces.invariant.goes c.in_ok-plain.ensures in
    content_ends (mark_view c.in-Some.next) c.next_mark.new.reader (inside_view c.piece.new.inside) c.piece.new.reader
    goes c.in-Some.ensures
    (ap (λ s. piece_at (child_at c.args.root.now c.args.levels c.args.kept s) (inside_view c.plain.new.inside) (mark_view c.in-Some.next) c.next_mark.new.reader)
    (sym c.pieces.invariant.scope) ∙ c.in_ok-piece.ensures.gives
    ∙ ap (λ b. Some ((b, inside_view c.piece.new.inside), c.piece.new.reader)) c.if-branch.true)

pub content-pieces-smaller : goal.content-pieces-smaller
content-pieces-smaller t c =
    let d = plain_short c.in_ok-plain.ensures in
    let a = mark_short c.plain.new.reader (mark_view c.in-Some.next) c.next_mark.new.reader c.in-Some.ensures in
    let b = piece_short _ (inside_view c.plain.new.inside) (mark_view c.in-Some.next) c.next_mark.new.reader _ c.piece.new.reader
    (child_short c.args.root.now c.args.levels c.args.kept (scope_view c.pieces.scope.items)) c.in_ok-piece.ensures.gives in
    omega (arith, a, b, d)

pub content-pieces-preserved : goal.content-pieces-preserved
content-pieces-preserved t c =
    let d = plain_short c.in_ok-plain.ensures in
    let goes = content_plain (inside_view c.plain.new.inside) c.plain.new.reader c.pieces.invariant.goes c.in_ok-plain.ensures in
    let a = mark_short c.plain.new.reader (mark_view c.in-Some.next) c.next_mark.new.reader c.in-Some.ensures in
    let b = piece_short _ (inside_view c.plain.new.inside) (mark_view c.in-Some.next) c.next_mark.new.reader _ c.piece.new.reader
    (child_short c.args.root.now c.args.levels c.args.kept (scope_view c.pieces.scope.items)) c.in_ok-piece.ensures.gives in
    record {
      goes = content_more (mark_view c.in-Some.next) c.next_mark.new.reader (inside_view c.piece.new.inside) c.piece.new.reader
          goes c.in-Some.ensures
          (ap (λ s. piece_at (child_at c.args.root.now c.args.levels c.args.kept s) (inside_view c.plain.new.inside) (mark_view c.in-Some.next) c.next_mark.new.reader)
          (sym c.pieces.invariant.scope) ∙ c.in_ok-piece.ensures.gives
          ∙ ap (λ b. Some ((b, inside_view c.piece.new.inside), c.piece.new.reader)) c.if-branch.false) (omega (arith, a, b, d));
      scope = c.in_ok-piece.ensures.scope ∙ c.pieces.invariant.scope;
    }
