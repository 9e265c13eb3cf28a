use Rattle.std.proofs.Common.{◌≡◌, [], ◌∷◌, ◌++◌, map, sym, ◌∙◌, ap}
use Rattle.std.proofs.lemmas.List.{map_push}
use Rattle.std.proofs.lemmas.Result.{err_from_is_err_and}
use Rattle.irs_xml.specs.Private.Reading.{setting_at}
use Rattle.irs_xml.specs.Private.TagViews.{setting_view}
use Rattle.irs_xml.proofs.SettingSteps.{took, took_none, behind_gap, fails_then, settings_end, settings_full, settings_close, settings_wrong, settings_more}
use Rattle.irs_xml.proofs.tags.settings.Goals as goal

pub returns-in-Some : goal.returns-in-Some
returns-in-Some c =
    let ss = map setting_view c.attributes.settings.items in
    sym c.attributes.invariant
    ∙ settings_end c.attributes.left ss c.attributes.reader c.gap-has_gap.new.self c.in-Some.is_empty c.tag_end.new.reader
    (behind_gap _ _ _ c.gap-has_gap.ensures) c.in-Some.ensures

pub returns-then-not-has_gap : goal.returns-then-not-has_gap
returns-then-not-has_gap c =
    let ss = map setting_view c.attributes.settings.items in
    sym c.attributes.invariant
    ∙ settings_close c.attributes.left ss c.attributes.reader c.gap-has_gap.new.self
    (behind_gap _ _ _ c.gap-has_gap.ensures) c.in_default.ensures.0
    (took_none _ _ _ _ c.gap-has_gap.ensures c.if-not-has_gap.true)

pub returns-then-left-eq0 : goal.returns-then-left-eq0
returns-then-left-eq0 c =
    let ss = map setting_view c.attributes.settings.items in
    sym c.attributes.invariant
    ∙ settings_full c.attributes.left ss c.attributes.reader c.gap-has_gap.new.self c.if-left-eq0.true
    (behind_gap _ _ _ c.gap-has_gap.ensures) c.in_default.ensures.0

pub returns-in_err-setting : goal.returns-in_err-setting
returns-in_err-setting c =
    let ss = map setting_view c.attributes.settings.items in
    let p = err_from_is_err_and c.from_residual.result c.from_residual.ensures.1 in
    let gap = took _ _ _ _ c.gap-has_gap.ensures c.if-not-has_gap.false in
    rw (p.1, p.2) (fails_then c.in_err-setting.field-0.0 _ _ c.in_err-setting.ensures (λ none.
    sym c.attributes.invariant
    ∙ settings_wrong c.attributes.left ss c.attributes.reader c.gap-has_gap.new.self
    (behind_gap _ _ _ c.gap-has_gap.ensures) c.in_default.ensures.0 gap
    (ap setting_at (sym c.in_default.ensures.1) ∙ none)))

pub attributes-preserved : goal.attributes-preserved
attributes-preserved c =
    let ss = map setting_view c.attributes.settings.items in
    let gap = took _ _ _ _ c.gap-has_gap.ensures c.if-not-has_gap.false in
    let pushed : map setting_view c.push.new.self.items ≡ ss ++ setting_view c.in_ok-setting.field-0 ∷ [] =
    rw c.in_ok-push.ensures.items (map_push _ c.attributes.settings.items c.in_ok-setting.field-0) in
    rw pushed (sym (settings_more c.attributes.left ss c.attributes.reader c.gap-has_gap.new.self (setting_view c.in_ok-setting.field-0)
    c.setting.new.reader c.if-left-eq0.false (behind_gap _ _ _ c.gap-has_gap.ensures) c.in_default.ensures.0 gap
    (ap setting_at (sym c.in_default.ensures.1) ∙ c.in_ok-setting.ensures)) ∙ c.attributes.invariant)
