mod Frames
