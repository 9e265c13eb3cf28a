use Rattle.std.proofs.Common.{List, map, Option, Bor, true, subst}
use Rattle.std.specs.Prelude.{IfSome}
use Rattle.irs_cli.specs.declared.commands.Named.{Named}
use Rattle.irs_cli.specs.Commands.{Wanted, word_texts, Asks}
use Rattle.irs_cli.specs.Private.Fetching.{asked_by, wanted_by, Stops}
use Rattle.irs_answers.specs.Messages.{cause_of, reply_status, reply_text}
use Rattle.irs_answers.specs.Forms.{files_given_by, no_files}
use Rattle.irs_answers.specs.declared.common.Common.{Common}
use Rattle.irs_cli.specs.Given.{Gathers, Holds, IsGiven, IsCommon, files_with}
use Rattle.irs_cli.specs.Run.{of_fetch, Replies, source}
use Rattle.irs_cli.proofs.CommandLemmas.{unlisted_by, asks_by, few_cals, lawful_asked}
use Rattle.irs_cli.proofs.CommonLemmas.{caused_with, replies_with, stops_with}
use Rattle.irs_cli.proofs.FileLemmas.{gathers_within}
use Rattle.irs_cli.proofs.HandedReplies.{answered_by}
use Rattle.irs_cli.proofs.RunLemmas.{unlisted_replies, stopped_replies, ended_replies}
use Rattle.irs_cli.proofs.SharingLemmas.{part_of}
use Rattle.irs_cli.proofs.program.carry_out.Goals as goal

pub returns-in_default-clause-answered : goal.returns-in_default-clause-answered
returns-in_default-clause-answered g c =
    let ws = word_texts c.args.words.now in
    unlisted_replies ws (g.F.Files.told c.args.files.now) (g.F.Files.gives c.args.files.now)
    (g.F.Files.failed c.args.files.now)
    (g.F.Files.faults c.args.files.now)
    (unlisted_by ws c.in_ok-command.field-0 c.in_ok-command.ensures c.in_default.is)

pub returns-in_err-fetched-in-None-clause-answered : goal.returns-in_err-fetched-in-None-clause-answered
returns-in_err-fetched-in-None-clause-answered g c =
    let e = c.in_err-fetched-in-None.field-0.0 in
    let made = c.from_residual-in_err-fetched-in-None in
    let ws = word_texts c.args.words.now in
    let told = g.F.Files.told c.args.files.now in
    let gives = g.F.Files.gives c.args.files.now in
    let failed = g.F.Files.failed c.fetch_all.new.files in
    let before = g.F.Files.faults c.args.files.now in
    let now = g.F.Files.faults c.fetch_all.new.files in
    let k = c.in-Some.command in
    let asks : Asks ws (asked_by k) = asks_by ws c.in_ok-command.field-0 k c.in_ok-command.ensures c.in-Some.is in
    let stops : Stops told (asked_by k).files failed before now e =
    subst (λ (l : List Named). Stops told (map wanted_by l) failed before now e) c.deref.ensures.value
    c.in_err-fetched-in-None.ensures.all in
    answered_by made.result (of_fetch e) (Replies ws (source told gives failed before now)) made.ensures.0 made.ensures.1
    (stopped_replies ws told gives (asked_by k) failed before now e asks stops)

pub reply_to-requires-clause-within : goal.reply_to-requires-clause-within
reply_to-requires-clause-within g c =
    let ws = word_texts c.args.words.now in
    let told = g.F.Files.told c.args.files.now in
    let k = c.in-Some.command in
    let asks : Asks ws (asked_by k) = asks_by ws c.in_ok-command.field-0 k c.in_ok-command.ensures c.in-Some.is in
    let f = files_given_by c.in_ok-fetched-in-None.fetched in
    let held : Gathers (Holds told) (asked_by k).files no_files f =
    subst (λ (l : List Named). Gathers (Holds told) (map wanted_by l) no_files f) c.deref.ensures.value
    c.in_ok-fetched-in-None.ensures.all.0 in
    gathers_within (Holds told) (asked_by k).files f (λ name bytes h. h.1) (few_cals ws (asked_by k) asks) held

pub reply_to-requires-clause-lawful : goal.reply_to-requires-clause-lawful
reply_to-requires-clause-lawful g c =
    let ws = word_texts c.args.words.now in
    let k = c.in-Some.command in
    lawful_asked ws (asked_by k) (asks_by ws c.in_ok-command.field-0 k c.in_ok-command.ensures c.in-Some.is)

pub returns-in-None-clause-answered : goal.returns-in-None-clause-answered
returns-in-None-clause-answered g c =
    let ws = word_texts c.args.words.now in
    let told = g.F.Files.told c.args.files.now in
    let k = c.in-Some.command in
    let asks : Asks ws (asked_by k) = asks_by ws c.in_ok-command.field-0 k c.in_ok-command.ensures c.in-Some.is in
    let f = files_given_by c.in_ok-fetched-in-None.fetched in
    let held : Gathers (Holds told) (asked_by k).files no_files f =
    subst (λ (l : List Named). Gathers (Holds told) (map wanted_by l) no_files f) c.deref.ensures.value
    c.in_ok-fetched-in-None.ensures.all.0 in
    let gives = g.F.Files.gives c.args.files.now in
    let fetched : Gathers (IsGiven gives) (asked_by k).files no_files f =
    subst (λ (l : List Named). Gathers (IsGiven gives) (map wanted_by l) no_files f) c.deref.ensures.value
    c.in_ok-fetched-in-None.ensures.given in
    let reply = c.in_ok-reply_to-in-None.field-0.reply in
    ended_replies ws told gives (asked_by k) f (g.F.Files.failed c.fetch_all.new.files)
    (g.F.Files.faults c.args.files.now) (g.F.Files.faults c.fetch_all.new.files) asks held fetched
    c.in_ok-fetched-in-None.ensures.all.1 (reply_status reply)
    (reply_text reply) c.in_ok-reply_to-in-None.ensures.due

pub returns-in-None-clause-cause : goal.returns-in-None-clause-cause
returns-in-None-clause-cause g c =
    let ws = word_texts c.args.words.now in
    let k = c.in-Some.command in
    let asks : Asks ws (asked_by k) = asks_by ws c.in_ok-command.field-0 k c.in_ok-command.ensures c.in-Some.is in
    let f = files_given_by c.in_ok-fetched-in-None.fetched in
    let gives = g.F.Files.gives c.args.files.now in
    let fetched : Gathers (IsGiven gives) (asked_by k).files no_files f =
    subst (λ (l : List Named). Gathers (IsGiven gives) (map wanted_by l) no_files f) c.deref.ensures.value
    c.in_ok-fetched-in-None.ensures.given in
    record {
      asked = asked_by k;
      asks = asks;
      given = f;
      fetched = fetched;
      cause = c.in_ok-reply_to-in-None.ensures.cause;
      noted = c.in_ok-reply_to-in-None.ensures.noted;
    }

pub returns-in_err-fetched-in-Some-common-clause-answered : goal.returns-in_err-fetched-in-Some-common-clause-answered
returns-in_err-fetched-in-Some-common-clause-answered g c =
    let e = c.in_err-fetched-in-Some-common.field-0.0 in
    let made = c.from_residual-in_err-fetched-in-Some-common in
    let ws = word_texts c.args.words.now in
    let told = g.F.Files.told c.args.files.now in
    let gives = g.F.Files.gives c.args.files.now in
    let failed = g.F.Files.failed c.fetch_all-in-Some-common.new.files in
    let before = g.F.Files.faults c.args.files.now in
    let now = g.F.Files.faults c.fetch_all-in-Some-common.new.files in
    let k = c.in-Some.command in
    let asks : Asks ws (asked_by k) = asks_by ws c.in_ok-command.field-0 k c.in_ok-command.ensures c.in-Some.is in
    let common : IsCommon ws told gives c.in-Some-common.common.now =
    subst (λ (o : Option (Bor Common)). IfSome o (λ x. IsCommon ws told gives x.now)) c.in-Some-common.is c.requires in
    let part = part_of true c.deref-in-Some-common.result.now c.deref-in-Some-common-2.result.now
    c.in_ok-own-in-Some-common.own.items k.files.items c.deref-in-Some-common.ensures.value
    c.deref-in-Some-common-2.ensures.value c.in_ok-own-in-Some-common.ensures in
    let stops : Stops told (files_with true (asked_by k).files) failed before now e =
    subst (λ (l : List Wanted). Stops told l failed before now e) part c.in_err-fetched-in-Some-common.ensures.all in
    answered_by made.result (of_fetch e) (Replies ws (source told gives failed before now)) made.ensures.0 made.ensures.1
    (stopped_replies ws told gives (asked_by k) failed before now e asks
    (stops_with ws told gives (asked_by k) c.in-Some-common.common.now asks common failed before now e stops))

pub reply_with-requires-clause-lawful : goal.reply_with-requires-clause-lawful
reply_with-requires-clause-lawful g c =
    let ws = word_texts c.args.words.now in
    let k = c.in-Some.command in
    lawful_asked ws (asked_by k) (asks_by ws c.in_ok-command.field-0 k c.in_ok-command.ensures c.in-Some.is)

pub returns-clause-answered : goal.returns-clause-answered
returns-clause-answered g c =
    let ws = word_texts c.args.words.now in
    let told = g.F.Files.told c.args.files.now in
    let gives = g.F.Files.gives c.args.files.now in
    let k = c.in-Some.command in
    let asks : Asks ws (asked_by k) = asks_by ws c.in_ok-command.field-0 k c.in_ok-command.ensures c.in-Some.is in
    let common : IsCommon ws told gives c.in-Some-common.common.now =
    subst (λ (o : Option (Bor Common)). IfSome o (λ x. IsCommon ws told gives x.now)) c.in-Some-common.is c.requires in
    let part = part_of true c.deref-in-Some-common.result.now c.deref-in-Some-common-2.result.now
    c.in_ok-own-in-Some-common.own.items k.files.items c.deref-in-Some-common.ensures.value
    c.deref-in-Some-common-2.ensures.value c.in_ok-own-in-Some-common.ensures in
    let own = files_given_by c.in_ok-fetched-in-Some-common.fetched in
    let held : Gathers (Holds told) (files_with true (asked_by k).files) no_files own =
    subst (λ (l : List Wanted). Gathers (Holds told) l no_files own) part
    c.in_ok-fetched-in-Some-common.ensures.all.0 in
    let given : Gathers (IsGiven gives) (files_with true (asked_by k).files) no_files own =
    subst (λ (l : List Wanted). Gathers (IsGiven gives) l no_files own) part
    c.in_ok-fetched-in-Some-common.ensures.given in
    let reply = c.in_ok-reply_with-in-Some-common.field-0.reply in
    replies_with ws told gives (asked_by k) c.in-Some-common.common.now asks common own
    (g.F.Files.failed c.fetch_all-in-Some-common.new.files) (g.F.Files.faults c.args.files.now)
    (g.F.Files.faults c.fetch_all-in-Some-common.new.files) held given c.in_ok-fetched-in-Some-common.ensures.all.1
    (reply_status reply) (reply_text reply) c.in_ok-reply_with-in-Some-common.ensures.due

pub returns-clause-cause : goal.returns-clause-cause
returns-clause-cause g c =
    let ws = word_texts c.args.words.now in
    let told = g.F.Files.told c.args.files.now in
    let gives = g.F.Files.gives c.args.files.now in
    let k = c.in-Some.command in
    let asks : Asks ws (asked_by k) = asks_by ws c.in_ok-command.field-0 k c.in_ok-command.ensures c.in-Some.is in
    let common : IsCommon ws told gives c.in-Some-common.common.now =
    subst (λ (o : Option (Bor Common)). IfSome o (λ x. IsCommon ws told gives x.now)) c.in-Some-common.is c.requires in
    let part = part_of true c.deref-in-Some-common.result.now c.deref-in-Some-common-2.result.now
    c.in_ok-own-in-Some-common.own.items k.files.items c.deref-in-Some-common.ensures.value
    c.deref-in-Some-common-2.ensures.value c.in_ok-own-in-Some-common.ensures in
    let own = files_given_by c.in_ok-fetched-in-Some-common.fetched in
    let given : Gathers (IsGiven gives) (files_with true (asked_by k).files) no_files own =
    subst (λ (l : List Wanted). Gathers (IsGiven gives) l no_files own) part
    c.in_ok-fetched-in-Some-common.ensures.given in
    let noted = c.in_ok-reply_with-in-Some-common.field-0 in
    caused_with ws told gives (asked_by k) c.in-Some-common.common.now asks common own given (cause_of noted.reply)
    noted.note (reply_status noted.reply) (reply_text noted.reply) c.in_ok-reply_with-in-Some-common.ensures.cause
    c.in_ok-reply_with-in-Some-common.ensures.noted
