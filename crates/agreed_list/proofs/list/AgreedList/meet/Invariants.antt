use Rattle.agreed_list.proofs.list.AgreedList.meet.Given as goal

abbrev pub ghosts-meet_named : goal.ghosts-meet_named
ghosts-meet_named g a = record { named = g.N.More.more a.of.now }
