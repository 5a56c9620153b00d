-- What its pens give is the main pen.
use Rattle.draw.proofs.Entries.{main_laid}
use Rattle.draw.proofs.lay_main.Goals as goal

pub returns : goal.returns
returns c =
    let edges = c.args.edges in
    main_laid c.args.main edges.left edges.right c.line_pens-pens.ensures c.requires edges.in_line c.told-line c.copy_from_slice.ensures.after
