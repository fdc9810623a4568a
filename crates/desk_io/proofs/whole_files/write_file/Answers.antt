use Rattle.desk_io.specs.System.{Look, plain_by, refused_by}
use Rattle.desk_io.proofs.Spared.{none_asked, one_more_asked, replaced}
use Rattle.desk_io.proofs.whole_files.write_file.Goals as goal

pub returns-in-Ok-true : goal.returns-in-Ok-true
returns-in-Ok-true g c =
    let before = g.Y.System.trace c.args.system.now in
    replaced c.args.folder.now c.args.name.now c.args.bytes.now before _ _
    (one_more_asked c.args.folder.now c.args.name.now before before _ (none_asked c.args.folder.now c.args.name.now before)
    (Look c.as_str.result.now (plain_by c.look.result) (refused_by c.look.result)) tt c.look.ensures.noted)
    c.replace.result c.replace.ensures.done c.replace.ensures.spared
