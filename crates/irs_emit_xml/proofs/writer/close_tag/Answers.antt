use Rattle.irs_emit_xml.proofs.writer.close_tag.Goals as goal
use Rattle.irs_emit_xml.proofs.Lines.{close_pieces}

pub returns : goal.returns
returns c =
    close_pieces c.args.level c.args.name.now c.args.out.now.items c.indent.new.out.items c.end_tag.new.out.items
    c.in_ok-indent.ensures
    c.in_ok-end_tag.ensures
